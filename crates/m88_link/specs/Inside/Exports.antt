-- The table of global symbols: of symbols of one name the first, marked as not global where another has its name.
use Rattle.std.specs.Prelude.{ℕ, Bool, false, List, [], ◌∷◌, ◌++◌, bytes_eq, if◌then◌else◌, is_some, None, Option}
use Rattle.std.specs.Option.{option_or}
use Rattle.m88_link.specs.declared.object.Symbol.{Symbol}
use Rattle.m88_link.specs.Symbols.{Repetition, repetition, symbol_of}

-- a symbol that is global or not
abbrev pub with_global : Bool → Symbol → Symbol
with_global global s = record s { global = global }

-- symbols of which the first of a name is marked as not global
abbrev pub withdrawn : List ℕ → List Symbol → List Symbol
withdrawn name [] = []
withdrawn name (s ∷ ss) = if bytes_eq name s.name then with_global false s ∷ ss else s ∷ withdrawn name ss

-- a table with one symbol more
abbrev pub taken_one : List Symbol → Symbol → List Symbol
taken_one table s = if is_some (symbol_of table s.name) then withdrawn s.name table else table ++ s ∷ []

-- and with symbols more, in order
abbrev pub taken : List Symbol → List Symbol → List Symbol
taken table [] = table
taken table (s ∷ ss) = taken (taken_one table s) ss

-- the first of the symbols whose name the table has when it is taken
abbrev pub repeated_in : List Symbol → List Symbol → Option Repetition
repeated_in table [] = None
repeated_in table (s ∷ ss) = option_or (repetition table s) (repeated_in (taken_one table s) ss)
