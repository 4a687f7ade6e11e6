-- Layout of a module (assembler manuals: sections and location counters). Sections are numbered: 0 is text, 1 is
-- data, and each `.at` opens the next. In every section the bytes of the statements follow one another, padded by
-- `.align` alone.
use Rattle.std.specs.Prelude.{ℕ, ◌+◌, ◌-◌, ◌*◌, ◌%◌, ◌==◌, if◌then◌else◌, List, [], ◌∷◌, length}
use Rattle.m88_parse.specs.declared.unit.Body.{Body}
use Rattle.m88_parse.specs.declared.unit.Body.TheVariants.{
  Text,
  DataSection,
  At,
  Word,
  Half,
  Byte,
  Ascii,
  Zero,
  Align,
  Code,
}
use Rattle.m88_parse.specs.declared.unit.Statement.{Statement}

-- what is known of the sections before a statement
pub record Counters : Type 0 where
  -- the section that stands, into which the next byte goes
  pub here : ℕ
  -- the number of sections so far
  pub count : ℕ
  -- from which number each section counts for alignment: an `.at` section from its address, text and data from 0, since
  -- their bases are multiples of 8
  pub starts : ℕ → ℕ
  -- the number of bytes that each section has so far
  pub lengths : ℕ → ℕ

-- a module begins in text, with text and data empty
abbrev pub at_begin : Counters
at_begin = record { here = 0; count = 2; starts = λ _. 0; lengths = λ _. 0 }

-- a function with another value at k
abbrev pub put : (ℕ → ℕ) → ℕ → ℕ → ℕ → ℕ
put f k v j = if k == j then v else f j

-- the section in which a statement with this body stands: `.text` and `.data` go on in theirs, `.at` opens one
abbrev pub here_at : Counters → Body → ℕ
here_at c Text = 0
here_at c DataSection = 1
here_at c (At address) = c.count
here_at c _ = c.here

-- the number of sections once the body's section stands
abbrev pub count_at : Counters → Body → ℕ
count_at c (At address) = c.count + 1
count_at c _ = c.count

-- from which number each section counts for alignment then
abbrev pub starts_at : Counters → Body → ℕ → ℕ
starts_at c (At address) = put c.starts c.count address
starts_at c _ = c.starts

-- the counters once the body's section stands
abbrev pub at_section : Counters → Body → Counters
at_section c body = record c { here = here_at c body; count = count_at c body; starts = starts_at c body }

-- the number of bytes that the section that stands has
abbrev pub offset_here : Counters → ℕ
offset_here c = c.lengths c.here

-- the place that the alignment of the next byte goes by
abbrev pub place_here : Counters → ℕ
place_here c = c.starts c.here + c.lengths c.here

-- the number of zero bytes from a place up to a multiple of n
abbrev pub padding : ℕ → ℕ → ℕ
padding n place = (n - place % n) % n

-- the number of bytes that a body gives at a place
abbrev pub length_at : ℕ → Body → ℕ
length_at place (Word values) = 4 * length values
length_at place (Half numbers) = 2 * length numbers
length_at place (Byte bytes) = length bytes
length_at place (Ascii bytes) = length bytes
length_at place (Zero n) = n
length_at place (Align n) = padding n place
length_at place (Code instr fixup) = 4
length_at place _ = 0

-- the counters with n bytes more in the section that stands
abbrev pub with_length : Counters → ℕ → Counters
with_length c n = record c { lengths = put c.lengths c.here (c.lengths c.here + n) }

-- the counters after a statement with this body
abbrev pub after : Counters → Body → Counters
after c body = with_length (at_section c body) (length_at (place_here (at_section c body)) body)

-- a statement and the counters before it
pub record Located : Type 0 where
  pub before : Counters
  pub statement : Statement

-- statements with their counters, from counters on
unfoldable pub located : Counters → List Statement → List Located
located c [] = []
located c (x ∷ xs) = record { before = c; statement = x } ∷ located (after c x.body) xs

-- the counters once a statement's section stands
abbrev pub at_body : Located → Counters
at_body r = at_section r.before r.statement.body

-- the number of a statement's section
abbrev pub section_of : Located → ℕ
section_of r = here_at r.before r.statement.body

-- the offset of a statement's first byte in its section
abbrev pub offset_of : Located → ℕ
offset_of r = offset_here (at_body r)

-- the place that a statement's alignment goes by
abbrev pub place_of : Located → ℕ
place_of r = place_here (at_body r)

-- the number of bytes that a statement gives
abbrev pub length_of : Located → ℕ
length_of r = length_at (place_of r) r.statement.body
