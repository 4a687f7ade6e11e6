-- How many bytes objects have.
use Rattle.std.specs.Prelude.{ℕ, List, length, sum_by}
use Rattle.m88_link.specs.declared.object.Object.{Object}
use Rattle.m88_link.specs.declared.object.Section.{Section}

-- the number of bytes of sections
abbrev pub sections_size : List Section → ℕ
sections_size sections = sum_by (λ s. length s.bytes) sections

-- the number of bytes of an object
abbrev pub object_size : Object → ℕ
object_size o = sections_size o.sections

-- the number of bytes of all objects
abbrev pub total_size : List Object → ℕ
total_size objects = sum_by object_size objects
