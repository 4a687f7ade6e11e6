-- What a loader of S-records was fed, and what it answers for it (Motorola S-record format).
use Rattle.std.specs.Prelude.{ℕ, Bool, List, Option, Some, None, Result, Ok, Err, ◌≡◌, ◌⊎◌}
use Rattle.m88_base.specs.Image.{ProgramImage}
use Rattle.m88_srec.specs.Begun.{Begun, HoldsFault, LeadsTo, StaysRefused, load_in}
use Rattle.m88_srec.specs.Front.{LineFront}
use Rattle.m88_srec.specs.GivesVerdict.{no_memory}
use Rattle.m88_srec.specs.declared.fault.SrecFault.{SrecFault}

-- what is seen of a loader: the image, the number of records that load and the start address so far, the number of the
-- line whose end has not come, what is kept of this line and whether a CR is held back, how many bytes it was fed, and
-- the fault that it answers from now on
pub record LoaderView : Type 0 where
  pub image : ProgramImage
  pub records : ℕ
  pub start : Option ℕ
  pub number : ℕ
  pub front : LineFront
  pub cr : Bool
  pub total : ℕ
  pub fault : Option SrecFault

-- the text that has begun
abbrev pub begun_in : LoaderView → Begun
begun_in v = record { number = v.number; load = load_in v.image v.records v.start; front = v.front; cr = v.cr }

-- a text led to where a loader is, or memory ran out on the way, or the text has the fault that is kept
abbrev pub IsLedTo : Option SrecFault → List ℕ → Begun → Type 0
IsLedTo None text b = LeadsTo text b
IsLedTo (Some fault) text b = (fault ≡ no_memory) ⊎ StaysRefused text fault

-- a loader was fed a text, in whatever pieces
abbrev pub IsFed : List ℕ → LoaderView → Type 0
IsFed text v = IsLedTo v.fault text (begun_in v)

-- the answer to the last piece of a text: a fault exactly where the text holds the line of its first fault with its
-- line end, and then this one, or that memory ran out
abbrev pub AnswersFed : {T : Type 0} → List ℕ → Result T SrecFault → Type 0
AnswersFed text (Ok u) = (fault : SrecFault) → HoldsFault text fault → ⊥
AnswersFed text (Err fault) = (fault ≡ no_memory) ⊎ HoldsFault text fault
