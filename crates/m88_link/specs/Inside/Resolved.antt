-- Uses of symbols by the table of global symbols, of which those are marked as not global whose name several have.
use Rattle.std.specs.Prelude.{ℕ, ◌+◌, ◌%◌, ◌^◌, ◌&&◌, Bool, List, filter, is_some, map, None, Option, option_and_then, Some, if◌then◌else◌, unwrap_or}
use Rattle.std.specs.Option.{option_map, option_or}
use Rattle.m88_base.specs.Placed.{Placed}
use Rattle.m88_link.specs.declared.object.Object.{Object}
use Rattle.m88_link.specs.declared.object.Reloc.{Reloc}
use Rattle.m88_link.specs.declared.object.Symbol.{Symbol}
use Rattle.m88_link.specs.Bases.{Placement, base_of}
use Rattle.m88_link.specs.Field.{is_in_reach}
use Rattle.m88_link.specs.Inside.Carried.{carried, unpatched}
use Rattle.m88_link.specs.Layout.{Reference}
use Rattle.m88_link.specs.Relocated.{target_of}
use Rattle.m88_link.specs.Symbols.{symbol_of, value_in}

-- the value of a symbol that no other has the name of
abbrev pub value_alone : Symbol → Option ℕ
value_alone g = if g.global then Some g.value else None

-- the value of a name in an object, where it means one thing
abbrev pub known_value : List Symbol → Placement Object → List ℕ → Option ℕ
known_value table p name =
    option_or (option_map (value_in (base_of p)) (symbol_of p.part.symbols name))
    (option_and_then value_alone (symbol_of table name))

-- and else 0
abbrev pub value_or_zero : List Symbol → Placement Object → List ℕ → ℕ
value_or_zero table p name = unwrap_or (known_value table p name) 0

-- a relocation of an object as a use of its symbol
abbrev pub use_in : List Symbol → Placement Object → Reloc → Reference
use_in table p r = record {
  kind = r.kind;
  at = base_of p r.section + r.offset;
  name = r.symbol;
  target = option_map (λ v. (v + r.addend) % 2 ^ 32) (known_value table p r.symbol);
  line = r.line;
  col = r.col;
}

-- relocations of an object
abbrev pub uses_in : List Symbol → Placement Object → List Reloc → List Reference
uses_in table p relocs = map (use_in table p) relocs

-- a relocation of an object can be carried out
abbrev pub is_kept : List Symbol → Placement Object → Reloc → Bool
is_kept table p r =
    is_some (known_value table p r.symbol)
    && is_in_reach r.kind (target_of (value_or_zero table p) r) (base_of p r.section + r.offset)

-- sections on which those of the relocations are carried out that can be
abbrev pub carried_known : List Symbol → Placement Object → List Reloc → List Placed → List Placed
carried_known table p relocs spots =
    carried (target_of (value_or_zero table p)) (filter (is_kept table p) relocs) spots

-- all relocations of an object
abbrev pub all_uses : List Symbol → Placement Object → List Reference
all_uses table p = uses_in table p p.part.relocs

-- the sections of an object so
abbrev pub carried_spots : List Symbol → Placement Object → List Placed
carried_spots table p = carried_known table p p.part.relocs (map (unpatched p) p.part.sections)
