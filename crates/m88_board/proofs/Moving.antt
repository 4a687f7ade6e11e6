-- An event is the move of what is seen, and so goes along the timeline.
use Rattle.std.specs.Prelude.{ℕ, Bool, true, false, if◌then◌else◌, List, [], ◌∷◌, ◌≡◌, ◌≤◌, ◌-◌, length}
use Rattle.std.proofs.Common.{arith, refl, sym, ap, ap₂, ◌∙◌, subst}
use Rattle.std.proofs.lemmas.List.{length-drop}
use Rattle.m88_base.specs.Pages.{page_number}
use Rattle.m88_event.proofs.Laws.{keeps_past, moves_as_seen, precise_by, same_said, stays_within}
use Rattle.m88_event.specs.Choice.{Choice, ServesOrEnds, answer_choice, evicts, faults, finishes, holds, idles, issues, passes, replies, said, serves}
use Rattle.m88_event.specs.Local.{Local, choice_by, move, move_by, record_by, said_by, situation_of, with_move_counted}
use Rattle.m88_event.specs.Timeline.{Moment, Run, after_letter, said_at}
use Rattle.m88_event.specs.declared.happened.Happened.{Happened}
use Rattle.m88_event.specs.declared.letter.Letter.{Letter}
use Rattle.m88_event.specs.declared.letter.Letter.TheVariants.{Answer, Evict}
use Rattle.m88_event.specs.declared.record.Record.{Record}
use Rattle.m88_isa.specs.Held.{is_pending}
use Rattle.m88_isa.specs.Machine.{IsProgram, Program}
use Rattle.m88_isa.specs.declared.planned.Access.{Access}
use Rattle.m88_mem.specs.DataBus.{absent_of}
use Rattle.m88_board.specs.Board.{BoardView, completed_of, event_counted, local_of}
use Rattle.m88_isa.specs.ImageProgram.{IsProgramOf}
use Rattle.m88_board.specs.Moves.{IsAt, IsMove, end_after}
use Rattle.m88_board.specs.Inside.Events.{Did, Does}

-- a choice that was made and counted is the move
pub counted : (p : Program) (letter : Letter) (old middle : BoardView) (h : Happened) →
    Did (choice_by p old.limit letter (local_of old)) (record_by p old.limit (local_of old)) old h middle →
    IsMove p letter old h (event_counted middle)
unfolding move said_by local_of completed_of
counted p letter old middle h did = record {
  says = did.says;
  moved = ap with_move_counted did.does.moved;
  same = record {
    limit = did.does.same.limit;
    mxm = did.does.same.mxm;
    named = did.does.same.named;
    image = did.does.same.image;
    begun = did.does.same.begun;
  };
}

-- and a board that stands at a moment stands at the next
pub along : (r : Run) (m : Moment) (letter : Letter) (old : BoardView) (h : Happened) (new : BoardView) →
    IsProgram r.program → IsAt r m old → IsMove r.program letter old h new → IsAt r (after_letter r letter m) new
along r m letter old h new is at moved = record {
  image = subst (λ image. IsProgramOf image r.program) (sym moved.same.image) at.image;
  limit = moved.same.limit ∙ at.limit;
  within = stays_within r letter m at.within;
  past = keeps_past r letter m at.within at.past;
  seen = moved.moved ∙ ap₂ (λ (n : ℕ) (l : Local). move r.program n letter l) at.limit at.seen
      ∙ moves_as_seen r letter m is at.within;
}

-- the same of a board whose events are counted behind it
pub moved_by : (p : Program) (letter : Letter) (old middle : BoardView) (h : Happened) (new : BoardView) →
    new ≡ event_counted middle →
    Did (choice_by p old.limit letter (local_of old)) (record_by p old.limit (local_of old)) old h middle →
    IsMove p letter old h new
moved_by p letter old middle h new is did =
    subst (λ (b : BoardView). IsMove p letter old h b) (sym is) (counted p letter old middle h did)

-- and it says what the timeline says
pub says_so : (r : Run) (m : Moment) (letter : Letter) (old : BoardView) (h : Happened) (new : BoardView) →
    IsAt r m old → IsMove r.program letter old h new → h ≡ said_at r letter m
says_so r m letter old h new at moved =
    moved.says ∙ ap₂ (λ (n : ℕ) (l : Local). said_by r.program n letter l) at.limit at.seen ∙ same_said r letter m

-- a trap is served and the program ends only where nothing is pending
pub empty_of : (xs : List Access) → is_pending xs ≡ false → xs ≡ []
empty_of [] h = refl
empty_of (x ∷ xs) h = absurd cc

pub precise_on : (p : Program) (letter : Letter) (old : BoardView) (h : Happened) (new : BoardView) →
    IsMove p letter old h new →
    ServesOrEnds h →
    old.pending ≡ []
unfolding local_of
precise_on p letter old h new moved last =
    empty_of old.pending (precise_by p old.limit letter (local_of old) (subst ServesOrEnds moved.says last))

-- the letter `r` makes the choice of the oldest transaction
pub answer_chosen : (p : Program) (old : BoardView) →
    choice_by p old.limit Answer (local_of old) ≡ answer_choice old.pending (absent_of old.memory)
unfolding situation_of local_of
answer_chosen p old = refl

-- and the letter `e` its own
pub evict_chosen : (p : Program) (old : BoardView) → choice_by p old.limit Evict (local_of old) ≡ evicts
unfolding situation_of local_of
evict_chosen p old = refl

-- an answer leaves fewer transactions pending
fewer_replied : (fault : Record) (old new : BoardView) → Does replies fault old new →
    length new.pending ≤ length old.pending - 1
unfolding local_of
fewer_replied fault old new did =
    let left = ap (λ (l : Local). length l.pending) did.moved in
    let dropped = length-drop 1 old.pending in
    omega (arith, left, dropped)

fewer_faulted : (fault : Record) (old new : BoardView) → Does faults fault old new →
    length new.pending ≤ length old.pending - 1
unfolding local_of
fewer_faulted fault old new did = let left = ap (λ (l : Local). length l.pending) did.moved in omega (arith, left)

fewer_by : (absent : Bool) (fault : Record) (old new : BoardView) → Does (if absent then faults else replies) fault old new →
    length new.pending ≤ length old.pending - 1
fewer_by true fault old new did = fewer_faulted fault old new did
fewer_by false fault old new did = fewer_replied fault old new did

pub fewer_answered : (pending : List Access) (absent : ℕ → Bool) (fault : Record) (old new : BoardView) →
    old.pending ≡ pending →
    Does (answer_choice pending absent) fault old new →
    length new.pending ≤ length old.pending - 1
unfolding local_of
fewer_answered [] absent fault old new is did =
    let left = ap (λ (l : Local). length l.pending) did.moved in
    let none = ap length is in
    omega (arith, left, none)
fewer_answered (a ∷ pending) absent fault old new is did = fewer_by (absent (page_number a.addr)) fault old new did

-- and tells how the program ended
ended_by : (choice : Choice) (fault : Record) (l : Local) →
    (move_by choice fault l).ended ≡ end_after (said choice fault) l.ended
ended_by idles fault l = refl
ended_by _ fault l = refl

pub ended_so : (p : Program) (letter : Letter) (old : BoardView) (h : Happened) (new : BoardView) →
    IsMove p letter old h new →
    new.ended ≡ end_after h old.ended
unfolding move said_by local_of
ended_so p letter old h new moved =
    ap (λ (l : Local). l.ended) moved.moved
    ∙ ended_by (choice_by p old.limit letter (local_of old)) (record_by p old.limit (local_of old)) (local_of old)
    ∙ ap (λ (x : Happened). end_after x old.ended) (sym moved.says)
