-- The sums at the end of a listing: how many bytes text, data and the sections at addresses have, and the start.
use Rattle.std.specs.Prelude.{ℕ, Bool, false, true, List, [], ◌∷◌, ◌++◌, codes, decimal, filter, sum_by}
use Rattle.m88_base.specs.Hex.{hex8}
use Rattle.m88_parse.specs.declared.unit.Unit.{Unit as Source}
use Rattle.m88_link.specs.Sizes.{sections_size}
use Rattle.m88_link.specs.declared.object.Object.{Object}
use Rattle.m88_link.specs.declared.object.Place.{Place}
use Rattle.m88_link.specs.declared.object.Place.TheVariants.{At, DataSection, Text}
use Rattle.m88_asm.specs.Images.{unit_start}
use Rattle.m88_asm.specs.Objects.{objects_of}

-- a section is text
abbrev pub is_text : Place → Bool
is_text Text = true
is_text _ = false

-- it is data
abbrev pub is_data : Place → Bool
is_data DataSection = true
is_data _ = false

-- it stands at an address of its own
abbrev pub is_at : Place → Bool
is_at (At address) = true
is_at _ = false

-- the number of bytes of an object's sections that stand so
abbrev pub size_where : (Place → Bool) → Object → ℕ
size_where stands o = sections_size (filter (λ x. stands x.place) o.sections)

-- the number of bytes of the sections of objects that stand so
abbrev pub sum_where : (Place → Bool) → List Object → ℕ
sum_where stands objects = sum_by (size_where stands) objects

-- the line of the sums of objects and of a start
abbrev pub sum_line : List Object → ℕ → List ℕ
sum_line objects start =
    codes "text " ++ decimal (sum_where is_text objects) ++ codes " data " ++ decimal (sum_where is_data objects)
    ++ codes " at " ++ decimal (sum_where is_at objects) ++ codes " start " ++ hex8 start

-- an empty line, and the sums of a unit
abbrev pub sum_lines : Source → List (List ℕ)
sum_lines u = [] ∷ sum_line (objects_of u) (unit_start u) ∷ []
