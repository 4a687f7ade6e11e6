-- The object of a module as it grows statement by statement.
use Rattle.std.specs.Prelude.{ℕ, ◌<◌, ◌≤◌, List, [], ◌∷◌, ◌++◌, length, slice_index_or, slice_set}
use Rattle.m88_parse.specs.declared.unit.Body.{Body}
use Rattle.m88_parse.specs.declared.unit.Body.TheVariants as body
use Rattle.m88_parse.specs.declared.unit.Statement.{Statement}
use Rattle.m88_link.specs.declared.object.Place.TheVariants as place
use Rattle.m88_link.specs.declared.object.Reloc.{Reloc}
use Rattle.m88_link.specs.declared.object.Section.{Section}
use Rattle.m88_link.specs.declared.object.Symbol.{Symbol}
use Rattle.m88_link.specs.Sound.{origin}
use Rattle.m88_asm.specs.Counters.{Counters, Located, offset_here, place_here}
use Rattle.m88_asm.specs.Filled.{waiting_bytes}
use Rattle.m88_asm.specs.Objects.{symbols_of, uses_in_body}

-- the sections, symbols and uses of the statements so far
pub record Growth : Type 0 where
  pub sections : List Section
  pub here : ℕ
  pub symbols : List Symbol
  pub uses : List Reloc

-- a section that isn't there
abbrev pub no_section : Section
no_section = record { place = place.Text; bytes = []; line = 0 }

-- a section by its number
abbrev pub nth : List Section → ℕ → Section
nth sections k = slice_index_or sections k no_section

-- a section with bytes behind its own
abbrev pub with_bytes : Section → List ℕ → Section
with_bytes s bytes = record { place = s.place; bytes = s.bytes ++ bytes; line = s.line }

-- the counters that the sections show
abbrev pub counters_of : List Section → ℕ → Counters
counters_of sections here = record {
  here = here;
  count = length sections;
  starts = λ k. origin (nth sections k).place;
  lengths = λ k. length (nth sections k).bytes;
}

-- a statement behind those so far
abbrev pub next_row : Growth → Statement → Located
next_row g x = record { before = counters_of g.sections g.here; statement = x }

-- with more symbols
abbrev pub with_symbols : Growth → List Symbol → Growth
with_symbols g symbols = record { sections = g.sections; here = g.here; symbols = g.symbols ++ symbols; uses = g.uses }

-- the sections once the body's section stands
abbrev pub sections_at : ℕ → List Section → Body → List Section
sections_at line sections (body.At address) =
    sections ++ record { place = place.At address; bytes = []; line = line } ∷ []
sections_at line sections _ = sections

-- the section that stands then
abbrev pub section_at : ℕ → List Section → Body → ℕ
section_at here sections body.Text = 0
section_at here sections body.DataSection = 1
section_at here sections (body.At address) = length sections
section_at here sections _ = here

-- once the body's section stands
abbrev pub with_section : Growth → ℕ → Body → Growth
with_section g line b = record {
  sections = sections_at line g.sections b;
  here = section_at g.here g.sections b;
  symbols = g.symbols;
  uses = g.uses;
}

-- the bytes and the uses of a body go into the section that stands
abbrev pub here_bytes : Growth → Body → List ℕ
here_bytes g b = waiting_bytes (place_here (counters_of g.sections g.here)) b

-- with a body in the section that stands
abbrev pub with_body : Growth → ℕ → Body → Growth
with_body g line b = record {
  sections = slice_set g.sections g.here (with_bytes (nth g.sections g.here) (here_bytes g b));
  here = g.here;
  symbols = g.symbols;
  uses = g.uses ++ uses_in_body g.here (offset_here (counters_of g.sections g.here)) line b;
}

-- with one statement more
abbrev pub with_statement : Growth → Statement → Growth
with_statement g x =
    with_body (with_section (with_symbols g (symbols_of (next_row g x))) x.line x.body) x.line x.body

-- with statements more
unfoldable pub with_statements : Growth → List Statement → Growth
with_statements g [] = g
with_statements g (x ∷ xs) = with_statements (with_statement g x) xs

-- before the first statement
abbrev pub empty_growth : ℕ → Growth
empty_growth line = record {
  sections = record { place = place.Text; bytes = []; line = line }
      ∷ record { place = place.DataSection; bytes = []; line = line } ∷ [];
  here = 0;
  symbols = [];
  uses = [];
}

-- text and data are there, and the section that stands is one of those that are
pub record HasSections (sections : List Section) (here : ℕ) : Type 0 where
  pub both : 2 ≤ length sections
  pub stands : here < length sections
