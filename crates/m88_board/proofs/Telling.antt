-- What an event of `i` tells of its instruction.
use Rattle.std.specs.Prelude.{ℕ, Result, Ok, Err, IfOk, List, [], ◌∷◌, Option, ◌≡◌}
use Rattle.std.proofs.Common.{sym, ap, ap₂, subst, ◌∙◌}
use Rattle.m88_base.specs.Image.{byte_at}
use Rattle.m88_base.specs.declared.failing.NoMemory.{NoMemory}
use Rattle.m88_event.proofs.Laws.{same_situation}
use Rattle.m88_event.specs.Choice.{Choice, choice_of, issues, said}
use Rattle.m88_event.specs.Local.{Local, choice_by, local_at}
use Rattle.m88_event.specs.Timeline.{Moment, Run, choice_at}
use Rattle.m88_event.specs.declared.happened.Happened.{Happened}
use Rattle.m88_event.specs.declared.letter.Letter.TheVariants.{Issue}
use Rattle.m88_event.specs.declared.record.Record.{Record}
use Rattle.m88_isa.specs.Effect.{Change, recorded_change}
use Rattle.m88_isa.specs.History.{completed_state}
use Rattle.m88_isa.specs.Machine.{Stop, four_bytes, state}
use Rattle.m88_isa.specs.declared.planned.Access.{Access}
use Rattle.m88_isa.specs.declared.planned.Effect.{Effect}
use Rattle.m88_isa.specs.declared.planned.Plan.TheVariants.{Go}
use Rattle.m88_board.specs.Board.{BoardView, completed_of, local_of, pc_of}
use Rattle.m88_board.specs.Inside.Briefly.{happened_of}
use Rattle.m88_board.specs.declared.brief.Brief.{Brief}
use Rattle.m88_board.specs.Moves.{IsAt}
use Rattle.m88_board.specs.Inside.Events.{Did}
use Rattle.m88_board.specs.Inside.Turns.{stopping}
use Rattle.m88_board.specs.Told.{IsTold, IsWordOf, WentOn}
use Rattle.m88_board.specs.declared.told.Told.{Told}

-- what raises doesn't go on
stopping_stays : (stop : Stop) (pending : List Access) (fault : Record) → WentOn (said (stopping stop pending) fault) → ⊥
stopping_stays stop [] fault went = went
stopping_stays stop (a ∷ pending) fault went = went

pub stopped_stays : (stop : Stop) (pending : List Access) (fault : Record) (old new : BoardView) (h : Happened) →
    Did (stopping stop pending) fault old h new →
    WentOn h →
    ⊥
stopped_stays stop pending fault old new h did went =
    stopping_stays stop pending fault (subst WentOn did.says went)

-- an instruction has one change
pub change_told : (choice : Choice) (one other : Change) (effect : Effect) → choice ≡ issues one →
    effect ≡ recorded_change one →
    choice ≡ issues other →
    Go effect ≡ Go (recorded_change other)
change_told choice one other effect is same issued =
    let equal : one ≡ other = cc in
    ap Go (same ∙ ap recorded_change equal)

module _ (r : Run) (m : Moment) (b : BoardView) (at : IsAt r m b) where
  -- a board that stands at a moment makes its choice
  choice_seen : choice_by r.program b.limit Issue (local_of b) ≡ choice_at r Issue m
  choice_seen =
      ap₂ (λ (n : ℕ) (l : Local). choice_by r.program n Issue l) at.limit at.seen
      ∙ ap (choice_of r.program Issue) (same_situation r m)

  -- and is to fetch the word there
  word_seen : four_bytes r.program.byte (state r.program m.retired).pc ≡ four_bytes (byte_at b.memory.image) (pc_of b.slots)
  unfolding local_of local_at completed_of completed_state
  word_seen =
      ap₂ (λ (byte : ℕ → Option ℕ) (a : ℕ). four_bytes byte a) at.image.bytes
      (sym (ap (λ (l : Local). l.completed.pc) at.seen))

  -- so what its parts tell is what the moment tells
  pub told_at : (h : Happened) (told : Told) →
      (WentOn h → IsWordOf (four_bytes (byte_at b.memory.image) (pc_of b.slots)) told.word) →
      ((change : Change) → choice_by r.program b.limit Issue (local_of b) ≡ issues change
      → told.plan ≡ Go (recorded_change change)) →
      IsTold r m h told
  told_at h told word plan = record {
    word = λ went. ((word went).0, word_seen ∙ (word went).1);
    plan = λ change issued. plan change (choice_seen ∙ issued);
  }

-- the word of the instruction, whatever comes of it
pub word_told : (r : Result Brief NoMemory) (new : BoardView) (bytes : Option (List ℕ)) (word : ℕ) → IsWordOf bytes word →
    IfOk r (λ brief. WentOn (happened_of brief new) → IsWordOf bytes word)
word_told (Ok brief) new bytes word is = λ went. is
word_told (Err e) new bytes word is = tt
