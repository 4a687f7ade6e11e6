-- What is saved of a board with nothing pending stands for the moment at which it is.
use Rattle.std.specs.Prelude.{ℕ, Bool, true, false, not, [], List, ◌≡◌, is_some, if◌then◌else◌}
use Rattle.std.proofs.Common.{refl, sym, ap, ap₂, ◌∙◌}
use Rattle.std.proofs.lemmas.Bool.{eqb-true}
use Rattle.m88_base.specs.Slot.{slot_word}
use Rattle.m88_ctrl.specs.ControlRegisters.{ControlRegisters, entered, mxm_of, returned}
use Rattle.m88_event.specs.Local.{Local, local_at}
use Rattle.m88_event.specs.Shadow.{status_of}
use Rattle.m88_event.specs.Timeline.{Moment, Run, is_drained, opening_moment}
use Rattle.m88_isa.specs.Held.{is_pending}
use Rattle.m88_isa.specs.History.{completed_state, transaction_count, transactions}
use Rattle.m88_isa.specs.declared.planned.Access.{Access}
use Rattle.m88_mem.specs.Marks.{absent_in}
use Rattle.m88_scoreboard.specs.Registers.{none_waits, waiting_of}
use Rattle.m88_board.proofs.AtMoment.{done_at, events_at, records_at, retired_at}
use Rattle.m88_board.proofs.Ending.{none_wait, registers_are}
use Rattle.m88_board.proofs.OfHistory.{mode_stays}
use Rattle.m88_board.proofs.ReadBack.{mxm_back}
use Rattle.m88_board.proofs.Shown.{carry_seen, mxm_seen, pointers_are, words_seen}
use Rattle.m88_board.proofs.Walking.{drained_by}
use Rattle.m88_board.specs.Board.{BoardView, completed_of, local_of}
use Rattle.m88_board.specs.Contexts.{IsRunOf, StandsFor, context_of, mxm_in, saved_of}
use Rattle.m88_board.specs.Kept.{IsKept, epsr_of}
use Rattle.m88_board.specs.Moves.{IsAt}
use Rattle.m88_board.specs.Shown.{pointer_frame}
use Rattle.m88_board.specs.declared.context.Saved.{Saved}

-- MXM of its status
pub mxm_kept : (b : BoardView) → IsKept b → mxm_of b.control ≡ mxm_in (epsr_of b)
mxm_kept b kept = sym (ap mxm_in kept.status ∙ mxm_back _ (mxm_of b.control))

-- what is saved of it is of its run
pub own_run : (b : BoardView) → IsKept b → IsRunOf (context_of b) b
own_run b kept = record { limit = refl; named = refl; image = refl; mxm = mxm_kept b kept; events = refl }

module _ (r : Run) (m : Moment) (b : BoardView) (at : IsAt r m b) where
  -- nothing is pending at the moment
  pub all_done : b.pending ≡ [] → is_drained r.program m ≡ true
  all_done none = sym (drained_by r m b at) ∙ ap (λ (xs : List Access). not (is_pending xs)) none

  -- and what is saved stands for it
  pub stands_for : r.absent ≡ absent_in b.named → IsKept b → b.pending ≡ [] → StandsFor r m (context_of b)
  unfolding local_of completed_of local_at completed_state
  stands_for names kept none =
      let pointers = pointers_are r m b at kept.slots in
      record {
        is_image = kept.image;
        image = at.image;
        mode = sym (sym (mxm_kept b kept) ∙ mxm_seen r m b at ∙ mode_stays r.program m.retired);
        names = names;
        limit = at.limit;
        past = at.past;
        drained = eqb-true m.done (transaction_count r.program m.retired) (all_done none);
        saved = record {
          regs = registers_are r m b at none;
          epsr = kept.status ∙ ap₂ status_of (carry_seen r m b at) (mxm_seen r m b at);
          sxip = ap slot_word pointers.xip;
          snip = ap slot_word pointers.nip;
          sfip = ap slot_word pointers.fip;
        };
        words = words_seen r m b at;
        absent = ap (λ (l : Local). l.absent) at.seen;
        book = record {
          retired = retired_at r m b at;
          done = done_at r m b at;
          events = events_at r m b at;
          answers = ap (λ (l : Local). l.answers) at.seen;
          ended = ap (λ (l : Local). l.ended) at.seen;
          out = ap (λ (l : Local). l.completed.out) at.seen;
          records = records_at r m b at;
        };
        small = kept.small;
        counted = kept.counted;
      }

-- the status that is saved is the program's own
own_status : (ended : Bool) (c : ControlRegisters) →
    (if ended then returned c else c).psr ≡ (if ended then c.epsr else c.psr)
own_status true c = refl
own_status false c = refl

-- an interrupt saves these words
pub saved_is : (b : BoardView) (s : Saved) (regs : List ℕ) (ended : Bool) (left : ControlRegisters) → IsKept b →
    b.pending ≡ [] →
    (waiting_of b.file ≡ none_waits → regs ≡ b.file.numbers) →
    ended ≡ is_some b.ended →
    left ≡ entered (pointer_frame b.slots) (if ended then returned b.control else b.control) →
    s ≡ record { regs = regs; epsr = left.epsr; sxip = left.sxip; snip = left.snip; sfip = left.sfip } →
    s ≡ saved_of b
saved_is b s regs ended left kept none values has enters saves =
    let numbers = values (none_wait b kept none) in
    let status = ap (λ (r : ControlRegisters). r.epsr) enters ∙ own_status ended b.control
    ∙ ap (λ (t : Bool). if t then b.control.epsr else b.control.psr) has in
    let xip = ap (λ (r : ControlRegisters). r.sxip) enters in
    let nip = ap (λ (r : ControlRegisters). r.snip) enters in
    let fip = ap (λ (r : ControlRegisters). r.sfip) enters in
    saves ∙ (λ i. record { regs = numbers i; epsr = status i; sxip = xip i; snip = nip i; sfip = fip i })

-- before the first event nothing is pending
pub empty_at_first : (r : Run) (b : BoardView) → IsAt r opening_moment b → b.pending ≡ []
unfolding local_of local_at transactions
empty_at_first r b at = ap (λ (l : Local). l.pending) at.seen
