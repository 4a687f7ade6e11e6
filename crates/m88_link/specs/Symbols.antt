-- Symbol tables (object file formats: symbol binding and resolution): what a name means among symbols, and the first
-- symbol whose name is there already.
use Rattle.std.specs.Prelude.{ℕ, ◌+◌, ◌%◌, ◌^◌, ◌==◌, ◌||◌, Bool, List, [], ◌∷◌, ◌++◌, count_by, find, filter, is_some, map, Option, None, bytes_eq}
use Rattle.std.specs.Option.{option_map, option_map_or, option_or}
use Rattle.m88_link.specs.declared.object.Definition.{Definition}
use Rattle.m88_link.specs.declared.object.Symbol.{Symbol}

-- a name joined with its definition
abbrev pub joined : List ℕ → Definition → Symbol
joined name d =
    record { name = name; global = d.global; section = d.section; value = d.value; line = d.line; col = d.col }

-- the first symbol that has the name
abbrev pub symbol_of : List Symbol → List ℕ → Option Symbol
symbol_of symbols name = find (λ s. bytes_eq name s.name) symbols

-- a symbol whose name is defined already, and the line of the first definition
pub record Repetition : Type 0 where
  pub symbol : Symbol
  pub first : ℕ

-- the symbol as a repetition of one of those before it, where one has its name
abbrev pub repetition : List Symbol → Symbol → Option Repetition
repetition before s = option_map (λ f. record { symbol = s; first = f.line }) (symbol_of before s.name)

-- the first of the symbols whose name one of those before it has
abbrev pub repeated_after : List Symbol → List Symbol → Option Repetition
repeated_after before [] = None
repeated_after before (s ∷ ss) = option_or (repetition before s) (repeated_after (before ++ s ∷ []) ss)

-- the first symbol that repeats the name of an earlier one
abbrev pub first_repeated : List Symbol → Option Repetition
first_repeated symbols = repeated_after [] symbols

-- the value of a definition, where each section begins at its base: its number where it stands in no section, or else
-- the address of its place, which is 0 at the end of a section that ends with the last address
abbrev pub placed_value : (ℕ → ℕ) → Option ℕ → ℕ → ℕ
placed_value base section value = option_map_or (λ k. (base k + value) % 2 ^ 32) section value

-- the value of a symbol
abbrev pub value_in : (ℕ → ℕ) → Symbol → ℕ
value_in base s = placed_value base s.section s.value

-- the symbol as one that has its value and stands in no section
abbrev pub absolute : (ℕ → ℕ) → Symbol → Symbol
absolute base s = record s { section = None; value = value_in base s }

-- the symbols that other objects see, as absolute ones
abbrev pub exported : (ℕ → ℕ) → List Symbol → List Symbol
exported base symbols = map (absolute base) (filter (λ s. s.global) symbols)

-- what a name means in an object: its definition there, or else the first global one
abbrev pub symbol_meaning : List Symbol → (ℕ → ℕ) → List Symbol → List ℕ → Option ℕ
symbol_meaning globals base symbols name =
    option_or (option_map (value_in base) (symbol_of symbols name)) (option_map (λ g. g.value) (symbol_of globals name))

-- a name means one thing among symbols and global symbols: it is one of the symbols, or one global symbol alone has it
abbrev pub is_known : List Symbol → List Symbol → List ℕ → Bool
is_known globals symbols name = is_some (symbol_of symbols name) || count_by (λ g. bytes_eq name g.name) globals == 1
