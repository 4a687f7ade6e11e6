-- A table of symbols as the map that keeps it.
use Rattle.std.specs.Prelude.{ℕ, List, map}
use Rattle.m88_link.specs.declared.object.Definition.{Definition}
use Rattle.m88_link.specs.declared.object.Symbol.{Symbol}
use Rattle.m88_link.specs.Symbols.{joined}

-- the symbols of a map's entries
abbrev pub entry_symbols : List (List ℕ × Definition) → List Symbol
entry_symbols entries = map (λ e. joined e.0 e.1) entries
