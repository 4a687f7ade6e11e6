-- What an event brings comes to what happens, once it is counted.
use Rattle.std.specs.Prelude.{ℕ, false, ◌≡◌, ◌≤◌, ◌+◌, ◌-◌, length}
use Rattle.std.proofs.Common.{ap, refl, subst, sym, ◌∙◌}
use Rattle.m88_base.specs.Image.{IsImage}
use Rattle.m88_codec.proofs.Laws.{program_in, program_in_holds}
use Rattle.m88_event.specs.Choice.{Choice}
use Rattle.m88_event.specs.Local.{choice_by, record_by}
use Rattle.m88_event.specs.declared.happened.Happened.{Happened}
use Rattle.m88_event.specs.declared.letter.Letter.{Letter}
use Rattle.m88_event.specs.declared.letter.Letter.TheVariants.{Answer}
use Rattle.m88_isa.proofs.Laws.{program_of_image}
use Rattle.m88_isa.specs.ImageProgram.{IsProgramOf}
use Rattle.m88_isa.specs.Machine.{Program}
use Rattle.m88_mem.specs.DataBus.{absent_of}
use Rattle.m88_board.proofs.Briefly.{did_counted, told_counted}
use Rattle.m88_board.proofs.Leaving.{leaves_counted}
use Rattle.m88_board.proofs.Moving.{along, answer_chosen, ended_so, fewer_answered, moved_by, precise_on, says_so}
use Rattle.m88_board.specs.Board.{BoardView, event_counted, local_of}
use Rattle.m88_board.specs.Inside.Briefly.{happened_of}
use Rattle.m88_board.specs.Inside.Events.{Brings, Does}
use Rattle.m88_board.specs.Kept.{IsKept}
use Rattle.m88_board.specs.Moves.{Happens, IsMove, IsStill}
use Rattle.m88_board.specs.Shown.{Leaves}
use Rattle.m88_board.specs.declared.brief.Brief.{Brief}

-- an answer leaves fewer transactions pending
shorter_by : (p : Program) (letter : Letter) (old middle : BoardView) →
    Does (choice_by p old.limit letter (local_of old)) (record_by p old.limit (local_of old)) old middle →
    letter ≡ Answer →
    length middle.pending ≤ length old.pending - 1
shorter_by p letter old middle does is =
    fewer_answered old.pending (absent_of old.memory) (record_by p old.limit (local_of old)) old middle refl
    (subst (λ (choice : Choice). Does choice (record_by p old.limit (local_of old)) old middle)
    (ap (λ (x : Letter). choice_by p old.limit x (local_of old)) is ∙ answer_chosen p old) does)

pub happens : (letter : Letter) (old middle : BoardView) (b : Brief) (new : BoardView) →
    new ≡ event_counted middle →
    IsKept new →
    Brings letter old b middle →
    Happens letter old (happened_of b new) new
happens letter old middle b new is kept brings =
    let h : Happened = happened_of b new in
    let told : happened_of b middle ≡ h = told_counted b middle new is in
    let image : IsImage old.memory.image =
    subst IsImage (ap (λ (x : BoardView). x.memory.image) is ∙ brings.same.image) kept.image in
    let moved : (p : Program) → IsProgramOf old.memory.image p → IsMove p letter old h new =
    λ p of. moved_by p letter old middle h new is
    (did_counted (choice_by p old.limit letter (local_of old)) (record_by p old.limit (local_of old)) old middle new b is
    (brings.did p of)) in
    let p : Program = program_in false old.memory.image image in
    let of : IsProgramOf old.memory.image p = program_in_holds false old.memory.image image in
    record {
      moved = moved;
      timeline = λ r m at.
          along r m letter old h new (program_of_image old.memory.image r.program image at.image) at (moved r.program at.image);
      said = λ r m at. says_so r m letter old h new at (moved r.program at.image);
      precise = precise_on p letter old h new (moved p of);
      ended = ended_so p letter old h new (moved p of);
      counted = ap (λ (x : BoardView). x.events) is
          ∙ ap (λ (n : ℕ). n + 1) brings.events;
      same = (moved p of).same;
      still = λ still. is
          ∙ ap event_counted (brings.still (subst IsStill (sym told) still));
      shorter = λ answer. subst (λ (x : BoardView). length x.pending ≤ length old.pending - 1) (sym is)
          (shorter_by p letter old middle (brings.did p of).does answer);
      leaves = leaves_counted old h middle new is (subst (λ (x : Happened). Leaves x old middle) told brings.leaves);
      kept = kept;
    }
