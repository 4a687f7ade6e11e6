-- Layout of a program (manuals of linkers: allocation of sections, resolution of symbols): all of a list of objects
-- that linking looks at. A unit of the assembler has a layout of its own, made of its statements, and the two are
-- compared part by part.
use Rattle.std.specs.Prelude.{ℕ, ◌+◌, ◌%◌, ◌^◌, List, map, length, flat_map, Option, unwrap_or}
use Rattle.std.specs.List.{enumerate_from}
use Rattle.std.specs.Option.{option_map}
use Rattle.m88_base.specs.Placed.{Placed}
use Rattle.m88_base.specs.declared.fixup.Kind.{Kind}
use Rattle.m88_link.specs.declared.object.Object.{Object}
use Rattle.m88_link.specs.declared.object.Reloc.{Reloc}
use Rattle.m88_link.specs.declared.object.Section.{Section}
use Rattle.m88_link.specs.declared.object.Symbol.{Symbol}
use Rattle.m88_link.specs.Bases.{Placement, base_at, base_of, section_size, stood}
use Rattle.m88_link.specs.Relocated.{relocated}
use Rattle.m88_link.specs.Symbols.{exported, symbol_meaning}

-- the use of a symbol: the field, the address of the word, the name, the symbol's value plus the addend where the name
-- means something, and the place in the source
pub record Reference : Type 0 where
  pub kind : Kind
  pub at : ℕ
  pub name : List ℕ
  pub target : Option ℕ
  pub line : ℕ
  pub col : ℕ

-- the room of a section: the address of its first byte, the number of its bytes, and the line that opened it
pub record Extent : Type 0 where
  pub at : ℕ
  pub len : ℕ
  pub line : ℕ

-- the layout of a program: bytes at their addresses, global definitions, uses of symbols, and rooms of sections
pub record Layout : Type 0 where
  -- the bytes of each section with its relocations carried out, in the order of objects and section numbers
  pub spots : List Placed
  -- the global definitions in order, with their values
  pub globals : List Symbol
  -- the uses of symbols in the order of objects and relocations
  pub references : List Reference
  -- the room of each section, in the order of the spots
  pub extents : List Extent

-- a relocation as a use of its symbol
abbrev pub reference : List Symbol → (ℕ → ℕ) → List Symbol → Reloc → Reference
reference globals base symbols r = record {
  kind = r.kind;
  at = base r.section + r.offset;
  name = r.symbol;
  target = option_map (λ v. (v + r.addend) % 2 ^ 32) (symbol_meaning globals base symbols r.symbol);
  line = r.line;
  col = r.col;
}

-- the global definitions of an object
abbrev pub globals_of : Placement Object → List Symbol
globals_of p = exported (base_of p) p.part.symbols

-- the uses of symbols in an object
abbrev pub references_of : List Symbol → Placement Object → List Reference
references_of globals p = map (reference globals (base_of p) p.part.symbols) p.part.relocs

-- the room of a section of an object
abbrev pub extent : Placement Object → Section → Extent
extent p x = record { at = base_at p x.place; len = length x.bytes; line = x.line }

-- the room of the sections of an object
abbrev pub extents_of : Placement Object → List Extent
extents_of p = map (extent p) p.part.sections

-- the value of a name in an object, 0 where it means nothing
abbrev pub value_of_name : List Symbol → Placement Object → List ℕ → ℕ
value_of_name globals p name = unwrap_or (symbol_meaning globals (base_of p) p.part.symbols name) 0

-- the bytes of section k of an object
abbrev pub spot : List Symbol → Placement Object → ℕ → Section → Placed
spot globals p k x = record {
  at = base_at p x.place;
  bytes = relocated (value_of_name globals p) (base_of p) k p.part.relocs x.bytes;
}

-- the bytes of the sections of an object
abbrev pub spots_of : List Symbol → Placement Object → List Placed
spots_of globals p = map (λ e. spot globals p e.0 e.1) (enumerate_from 0 p.part.sections)

-- the layout of objects that stand somewhere
abbrev pub layout_at : List (Placement Object) → Layout
layout_at placements = record {
  spots = flat_map (spots_of (flat_map globals_of placements)) placements;
  globals = flat_map globals_of placements;
  references = flat_map (references_of (flat_map globals_of placements)) placements;
  extents = flat_map extents_of placements;
}

-- the layout of objects
abbrev pub layout_of : List Object → Layout
layout_of objects = layout_at (stood section_size objects)
