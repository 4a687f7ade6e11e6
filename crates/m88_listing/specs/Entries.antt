-- The symbols of a unit as they are listed: the labels in order of address, and apart from them the names of `.set`.
use Rattle.std.specs.Prelude.{◌≡◌, ℕ, ◌==◌, Bool, if◌then◌else◌, List, [], ◌++◌, codes, decimal, filter, flat_map, is_none, is_some, map, Option}
use Rattle.std.specs.List.Sorted.{IsNonDecreasingBy}
use Rattle.std.specs.Option.{option_map_or}
use Rattle.m88_base.specs.Hex.{hex8}
use Rattle.m88_parse.specs.declared.unit.Unit.{Unit as Source}
use Rattle.m88_link.specs.Symbols.{value_in}
use Rattle.m88_link.specs.declared.object.Symbol.{Symbol}
use Rattle.m88_asm.specs.Objects.{symbols_in}
use Rattle.m88_link.specs.Bases.{Placement}
use Rattle.m88_parse.specs.declared.unit.Module.{Module}
use Rattle.m88_asm.specs.Units.{base_in, based}
use Rattle.m88_listing.specs.declared.entries.Entry.{Entry}

-- a symbol of a module that stands somewhere: the value that linking gives it, its section, its name, the name of its
-- module, the line of its definition, and whether other modules see it
abbrev pub entry_of : Placement Module → Symbol → Entry
entry_of b s = record {
  value = value_in (base_in b) s;
  section = s.section;
  name = s.name;
  owner = b.part.name;
  line = s.line;
  global = s.global;
}

-- the symbols of a module of which this holds
abbrev pub entries_in : (Symbol → Bool) → Placement Module → List Entry
entries_in holds b = map (entry_of b) (filter holds (symbols_in b.part))

-- the labels of a unit, in order of definition
abbrev pub labels_of : Source → List Entry
labels_of u = flat_map (entries_in (λ s. is_some s.section)) (based u)

-- the names of `.set` of a unit, in order of definition
abbrev pub numbers_of : Source → List Entry
numbers_of u = flat_map (entries_in (λ s. is_none s.section)) (based u)

-- the entry has this value
abbrev pub has_value : ℕ → Entry → Bool
has_value value e = e.value == value

-- the same entries in order of their values, those of one value in the order that they had
pub record AreInOrder (entries ordered : List Entry) : Type 0 where
  pub ascend : IsNonDecreasingBy (λ e. e.value) ordered
  pub same : (value : ℕ) → filter (has_value value) ordered ≡ filter (has_value value) entries

-- a mark behind a symbol that other modules see
abbrev pub global_mark : Bool → List ℕ
global_mark seen = if seen then codes " global" else []

-- the word for a section by its number: section 0 is text, section 1 is data, and each other one stands at an address
abbrev pub section_name : ℕ → List ℕ
section_name k = if k == 0 then codes "text" else (if k == 1 then codes "data" else codes "at")

-- the word for a symbol's section behind its value, where it has one
abbrev pub section_mark : Option ℕ → List ℕ
section_mark section = option_map_or (λ k. codes " " ++ section_name k) section []

-- the line of a symbol: value, section, name, module and line, parted by one blank, and the mark
abbrev pub entry_line : Entry → List ℕ
entry_line e =
    hex8 e.value ++ section_mark e.section ++ codes " " ++ e.name ++ codes " " ++ e.owner ++ codes " " ++ decimal e.line
    ++ global_mark e.global
