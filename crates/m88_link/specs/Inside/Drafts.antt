-- An object text read line by line, what it has come to, and how a line goes on from there.
use Rattle.std.specs.Prelude.{◌≡◌, ℕ, ◌+◌, ◌-◌, ◌*◌, ◌==◌, ◌&&◌, ◌⊎◌, Bool, true, false, List, [], ◌∷◌, ◌++◌, Option, None, Some, Result, Ok, Err, length, min, nat_le, if◌then◌else◌}
use Rattle.std.specs.Option.{is_none}
use Rattle.std.specs.declared.alloc.AllocError.{AllocError}
use Rattle.m88_link.specs.declared.object.Object.{Object}
use Rattle.m88_link.specs.declared.object.Place.{Place}
use Rattle.m88_link.specs.declared.object.Place.TheVariants.{Text, DataSection, At}
use Rattle.m88_link.specs.declared.object.Reloc.{Reloc}
use Rattle.m88_link.specs.declared.object.Section.{Section}
use Rattle.m88_link.specs.declared.object.Symbol.{Symbol}
use Rattle.m88_link.specs.declared.object_fault.ObjectFault.{ObjectFault}
use Rattle.m88_link.specs.declared.object_fault.ObjectFault.TheVariants.{Form, Memory}
use Rattle.m88_link.specs.declared.row.Row.{Row}
use Rattle.m88_link.specs.declared.row.Row.TheVariants.{Begin, Head, Define, Patch, End}
use Rattle.m88_link.specs.declared.row.SectionHead.{SectionHead}
use Rattle.m88_base.specs.Lines.{line_feed}
use Rattle.m88_link.specs.ObjectText.{line_bytes}
use Rattle.m88_link.specs.ObjectRead.{IsSoundText, IsTextFault}
use Rattle.m88_base.specs.Cut.{split_at_byte}
use Rattle.m88_link.specs.Inside.Rows.{◌>>=◌, bytes_behind, row_in}

-- a section with the bytes that came, and how many are missing
pub record Filled : Type 0 where
  pub place : Place
  pub line : ℕ
  pub bytes : List ℕ
  pub missing : ℕ

-- an object whose end hasn't come: its whole sections, the one that is filled, its symbols and its relocations
pub record BegunObject : Type 0 where
  pub name : List ℕ
  pub sections : List Section
  pub filling : Option Filled
  pub symbols : List Symbol
  pub relocs : List Reloc

-- the objects that are whole, and the one whose end hasn't come
pub record Progress : Type 0 where
  pub done : List Object
  pub draft : Option BegunObject

-- before the first line
abbrev pub nothing_read : Progress
nothing_read = record { done = []; draft = None }

-- an object of which only the name came
abbrev pub only_named : List ℕ → BegunObject
only_named name = record { name = name; sections = []; filling = None; symbols = []; relocs = [] }

-- the list is empty
abbrev pub is_nil : {A : Type 0} → List A → Bool
is_nil xs = length xs == 0

-- a section of which only the head came
abbrev pub headed : SectionHead → Filled
headed h = record { place = h.place; line = h.line; bytes = []; missing = h.len }

-- the section that the bytes so far make
abbrev pub section_with : Filled → Section
section_with f = record { place = f.place; bytes = f.bytes; line = f.line }

-- an object with one more section, whole or to be filled
abbrev pub with_section_settled : BegunObject → Filled → BegunObject
with_section_settled d f =
    if f.missing == 0 then record d { sections = d.sections ++ section_with f ∷ []; filling = None }
    else record d { filling = Some f }

-- the section may stand behind n others
abbrev pub may_stand : ℕ → Place → Bool
may_stand n Text = n == 0
may_stand n DataSection = n == 1
may_stand n (At a) = nat_le 2 n

-- a section may begin
abbrev pub takes_head : BegunObject → SectionHead → Bool
takes_head d h = is_none d.filling && is_nil d.symbols && is_nil d.relocs && may_stand (length d.sections) h.place

-- text and data are there, and no section has bytes to come
abbrev pub is_whole : BegunObject → Bool
is_whole d = is_none d.filling && nat_le 2 (length d.sections)

-- a section begins
unfoldable pub head_step : SectionHead → BegunObject → Option BegunObject
head_step h d = if takes_head d h then Some (with_section_settled d (headed h)) else None

-- the bytes of one line more: as many as a line has, or the fewer that are missing
unfoldable pub more_bytes : List ℕ → Filled → Option Filled
more_bytes digits f =
    if length digits == 2 * min f.missing line_bytes
    then (bytes_behind f.bytes digits >>= λ bs.
    Some (record { place = f.place; line = f.line; bytes = bs; missing = f.missing - min f.missing line_bytes }))
    else None

-- bytes come
unfoldable pub bytes_step : List ℕ → BegunObject → Option BegunObject
bytes_step digits d = d.filling >>= λ f. (more_bytes digits f >>= λ g. Some (with_section_settled d g))

-- a symbol comes
unfoldable pub define_step : Symbol → BegunObject → Option BegunObject
define_step s d = if is_whole d && is_nil d.relocs then Some (record d { symbols = d.symbols ++ s ∷ [] }) else None

-- a relocation comes
unfoldable pub patch_step : Reloc → BegunObject → Option BegunObject
patch_step r d = if is_whole d then Some (record d { relocs = d.relocs ++ r ∷ [] }) else None

-- the object that the lines so far make
abbrev pub object_with : BegunObject → Object
object_with d = record { name = d.name; sections = d.sections; symbols = d.symbols; relocs = d.relocs }

-- the object goes on, where there is one
abbrev pub within : Progress → (BegunObject → Option BegunObject) → Option Progress
within s f = s.draft >>= λ d. (f d >>= λ e. Some (record { done = s.done; draft = Some e }))

-- an object begins, where none has begun
unfoldable pub begin_step : List ℕ → Progress → Option Progress
begin_step name s = if is_none s.draft then Some (record { done = s.done; draft = Some (only_named name) }) else None

-- the object ends, where it is whole
unfoldable pub end_step : Progress → Option Progress
end_step s =
    s.draft >>= λ d. (if is_whole d then Some (record { done = s.done ++ object_with d ∷ []; draft = None }) else None)

-- a line without bytes
abbrev pub row_step : Progress → Row → Option Progress
row_step s (Begin name) = begin_step name s
row_step s (Head h) = within s (head_step h)
row_step s (Define x) = within s (define_step x)
row_step s (Patch r) = within s (patch_step r)
row_step s End = end_step s

-- the byte `=`, with which a line of bytes begins
abbrev pub bytes_mark : ℕ
bytes_mark = 61

-- a line, without its LF
unfoldable pub line_step : Progress → List ℕ → Option Progress
line_step s [] = None
line_step s (b ∷ bs) = if b == bytes_mark then within s (bytes_step bs) else (row_in (b ∷ bs) >>= row_step s)

-- a line without the LF that is its last byte
abbrev pub unended : List ℕ → Option (List ℕ)
unended line = split_at_byte line_feed line >>= λ p. (if is_nil p.1 then Some p.0 else None)

-- a line with its LF
abbrev pub ended_step : Progress → List ℕ → Option Progress
ended_step s line = unended line >>= line_step s

-- what the end of the text leaves of what came: one or more objects, all of them whole
abbrev pub at_rest : ℕ → Progress → Result (List Object) ObjectFault
at_rest n s = if is_none s.draft && nat_le 1 (length s.done) then Ok s.done else Err (Form n)

-- on with what a line comes to
abbrev pub read_on
    : ℕ → Option Progress → (Progress → Result (List Object) ObjectFault) → Result (List Object) ObjectFault
read_on n None rest = Err (Form n)
read_on n (Some t) rest = rest t

-- the lines from number n on
unfoldable pub read_from : ℕ → Progress → List (List ℕ) → Result (List Object) ObjectFault
read_from n s [] = at_rest n s
read_from n s (line ∷ lines) = read_on n (ended_step s line) (λ t. read_from (n + 1) t lines)

-- a call took what it was given or refused it, as it is said; or memory ran out
abbrev pub TakesOrRefuses : {S : Type 0} → Result Bool AllocError → S → Option S → Type 0
TakesOrRefuses (Ok true) new said = said ≡ Some new
TakesOrRefuses (Ok false) new said = said ≡ None
TakesOrRefuses (Err e) new said = Unit {0}

-- what a call gives is what is said; or memory ran out
abbrev pub GivesObjects
    : {X : Type 0} → (X → List Object) → Result X ObjectFault → Result (List Object) ObjectFault → Type 0
GivesObjects seen (Ok x) said = said ≡ Ok (seen x)
GivesObjects seen (Err e) said = (e ≡ Memory) ⊎ (said ≡ Err e)

-- what a call gives is the text's: its sound objects, seen by `seen`, or its fault; or memory ran out
abbrev pub AnswersText : {X : Type 0} → (X → List Object) → List ℕ → Result X ObjectFault → Type 0
AnswersText seen text (Ok x) = IsSoundText (seen x) text
AnswersText seen text (Err e) = (e ≡ Memory) ⊎ IsTextFault text e
