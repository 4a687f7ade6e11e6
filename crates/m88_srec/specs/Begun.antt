-- A text of S-records of which more is to come (Motorola S-record format): what its lines so far come to, and when it
-- has a fault that nothing behind it can change.
use Rattle.std.specs.Prelude.{ℕ, Bool, true, false, List, [], ◌∷◌, ◌++◌, Option, ◌≡◌, ◌+◌, ◌==◌, ◌≤◌, count_by}
use Rattle.m88_base.specs.Image.{ProgramImage, byte_at, byte_count}
use Rattle.m88_base.specs.Lines.{carriage_return, line_feed, lines_of}
use Rattle.m88_srec.specs.Front.{LineFront, front_of}
use Rattle.m88_srec.specs.Verdict.{IsFirstSrecFault, Load, verdict, verdict_from}
use Rattle.m88_srec.specs.declared.fault.SrecFault.{SrecFault}

-- how many lines of a text ended
abbrev pub line_ends : List ℕ → ℕ
line_ends text = count_by (λ b. b == line_feed) text

-- a CR that may belong to a line end is held back
abbrev pub held_cr : Bool → List ℕ
held_cr false = []
held_cr true = carriage_return ∷ []

-- the image, the number of records that load and the start address so far, as what lines write
abbrev pub load_in : ProgramImage → ℕ → Option ℕ → Load
load_in image records start = record {
  loaded = record { found = byte_at image; count = byte_count image };
  records = records;
  start = start;
}

-- a text that has begun: the number of the line whose end has not come, what the lines before it write, what is kept
-- of this line, and whether a CR behind that is held back
pub record Begun : Type 0 where
  pub number : ℕ
  pub load : Load
  pub front : LineFront
  pub cr : Bool

-- a text leads there: its last line has not ended and an LF would end it, and whatever comes next, the verdict is the
-- one from this line on
pub record LeadsTo (text : List ℕ) (b : Begun) : Type 0 where
  pub line : List ℕ
  pub front : b.front ≡ front_of line
  pub inner : line_ends line ≡ 0
  pub ends : (more : List ℕ) → lines_of (line ++ (held_cr b.cr ++ (line_feed ∷ more))) ≡ line ∷ lines_of more
  pub number : b.number ≡ line_ends text + 1
  pub goes_on : (more : List ℕ)
      → verdict (text ++ more) ≡ verdict_from b.number b.load (lines_of (line ++ (held_cr b.cr ++ more)))

-- a text holds, with its line end, the line of its first fault
abbrev pub HoldsFault : List ℕ → SrecFault → Type 0
HoldsFault text fault = IsFirstSrecFault text fault × (fault.line ≤ line_ends text)

-- it does, and whatever comes next, that is the first fault
pub record StaysRefused (text : List ℕ) (fault : SrecFault) : Type 0 where
  pub first : (more : List ℕ) → IsFirstSrecFault (text ++ more) fault
  pub ended : fault.line ≤ line_ends text
