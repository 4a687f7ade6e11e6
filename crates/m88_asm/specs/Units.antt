-- The layout of a unit: where each module stands, what each symbol means, and the bytes of each section at their
-- addresses. It is said of the statements alone.
use Rattle.std.specs.Prelude.{ℕ, ◌+◌, ◌==◌, if◌then◌else◌, List, [], map, flat_map, slice_get, sum_by, unwrap_or}
use Rattle.std.specs.List.{enumerate_from}
use Rattle.std.specs.Option.{option_map_or}
use Rattle.m88_base.specs.Placed.{Placed}
use Rattle.m88_parse.specs.declared.unit.Module.{Module}
use Rattle.m88_parse.specs.declared.unit.Unit.{Unit as Source}
use Rattle.m88_link.specs.Bases.{Placement, base_at, stood}
use Rattle.m88_link.specs.Layout.{Extent, Layout, Reference, reference}
use Rattle.m88_link.specs.Symbols.{exported, symbol_meaning}
use Rattle.m88_link.specs.declared.object.Symbol.{Symbol}
use Rattle.m88_asm.specs.Counters.{Located, length_of, offset_of, place_of, section_of}
use Rattle.m88_asm.specs.Filled.{filled_bytes}
use Rattle.m88_asm.specs.Objects.{Head, heads_in, lines_in, symbols_in, symbol_uses}

-- the number of bytes that a statement gives to section k
abbrev pub length_in : ℕ → Located → ℕ
length_in k r = if section_of r == k then length_of r else 0

-- the number of bytes of section k of a module
abbrev pub section_length : ℕ → Module → ℕ
section_length k m = sum_by (length_in k) (lines_in m)

-- the modules of a unit where they stand
abbrev pub based : Source → List (Placement Module)
based u = stood section_length u.modules

-- the address of section k of a module, by its head
abbrev pub base_in : Placement Module → ℕ → ℕ
base_in b k = option_map_or (λ h. base_at b h.place) (slice_get (heads_in b.part) k) 0

-- the symbols of a module that all modules see, with their values
abbrev pub globals_in : Placement Module → List Symbol
globals_in b = exported (base_in b) (symbols_in b.part)

-- what a name is in a module: the value of its own symbol, else of the first global one; 0 where it means nothing
abbrev pub value_in_module : List Symbol → Placement Module → List ℕ → ℕ
value_in_module globals b name = unwrap_or (symbol_meaning globals (base_in b) (symbols_in b.part) name) 0

-- the address of a statement: the base of its section and its offset there
abbrev pub address_in : Placement Module → Located → ℕ
address_in b r = base_in b (section_of r) + offset_of r

-- the bytes of a statement, its symbols replaced
abbrev pub bytes_of : List Symbol → Placement Module → Located → List ℕ
bytes_of globals b r = filled_bytes (value_in_module globals b) (address_in b r) (place_of r) r.statement.body

-- what a statement gives to section k
abbrev pub filled_in : List Symbol → Placement Module → ℕ → Located → List ℕ
filled_in globals b k r = if section_of r == k then bytes_of globals b r else []

-- the bytes of section k of a module, its symbols replaced
abbrev pub filled_section : List Symbol → Placement Module → ℕ → List ℕ
filled_section globals b k = flat_map (filled_in globals b k) (lines_in b.part)

-- a section at its address
abbrev pub spot_under : List Symbol → Placement Module → ℕ × Head → Placed
spot_under globals b e = record { at = base_at b e.1.place; bytes = filled_section globals b e.0 }

-- the sections of a module at their addresses
abbrev pub spots_in : List Symbol → Placement Module → List Placed
spots_in globals b = map (spot_under globals b) (enumerate_from 0 (heads_in b.part))

-- the room of a section
abbrev pub extent_under : Placement Module → ℕ × Head → Extent
extent_under b e = record { at = base_at b e.1.place; len = section_length e.0 b.part; line = e.1.line }

-- the room of the sections of a module
abbrev pub extents_in : Placement Module → List Extent
extents_in b = map (extent_under b) (enumerate_from 0 (heads_in b.part))

-- the uses of symbols in a module
abbrev pub references_in : List Symbol → Placement Module → List Reference
references_in globals b =
    map (reference globals (base_in b) (symbols_in b.part)) (flat_map symbol_uses (lines_in b.part))

-- the layout of modules that stand somewhere
abbrev pub layout_on : List (Placement Module) → Layout
layout_on bs = record {
  spots = flat_map (spots_in (flat_map globals_in bs)) bs;
  globals = flat_map globals_in bs;
  references = flat_map (references_in (flat_map globals_in bs)) bs;
  extents = flat_map extents_in bs;
}

-- the layout of a unit
abbrev pub unit_layout : Source → Layout
unit_layout u = layout_on (based u)
