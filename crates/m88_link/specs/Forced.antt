-- Forced linking (options of linkers: force, noinhibit-exec): the output file that is made although a name or a
-- distance is refused, without the relocations that can't be carried out.
use Rattle.std.specs.Prelude.{◌≡◌, ◌+◌, ◌&&◌, Bool, false, filter, List, map}
use Rattle.m88_link.specs.declared.object.Object.{Object}
use Rattle.m88_link.specs.declared.object.Reloc.{Reloc}
use Rattle.m88_link.specs.declared.object.Symbol.{Symbol}
use Rattle.m88_link.specs.Bases.{Placement, base_of, section_size, stood}
use Rattle.m88_link.specs.Field.{is_in_reach}
use Rattle.m88_link.specs.Layout.{Layout, layout_at, layout_of, value_of_name}
use Rattle.m88_link.specs.Refusal.{AreDisjoint, is_too_large}
use Rattle.m88_link.specs.Relocated.{target_of}
use Rattle.m88_link.specs.Symbols.{is_known}

-- the sections of a layout have their room: it isn't too large, and none overlap
abbrev pub IsAllocated : Layout → Type 0
IsAllocated l = (is_too_large l.extents ≡ false) × AreDisjoint l.extents

-- a relocation of an object can be carried out: its name means one thing, and its field can take that
abbrev pub is_resolvable : List Symbol → Placement Object → Reloc → Bool
is_resolvable globals p r =
    is_known globals p.part.symbols r.symbol
    && is_in_reach r.kind (target_of (value_of_name globals p) r) (base_of p r.section + r.offset)

-- an object where it stands, with those of its relocations alone
abbrev pub resolvable : List Symbol → Placement Object → Placement Object
resolvable globals p =
    record p { part = record p.part { relocs = filter (is_resolvable globals p) p.part.relocs } }

-- the layout of objects with those of their relocations alone
abbrev pub forced_layout : List Object → Layout
forced_layout objects = layout_at (map (resolvable (layout_of objects).globals) (stood section_size objects))
