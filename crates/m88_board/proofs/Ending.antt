-- What a run came to, from the parts of a board that is over; and the state of the history that a board shows where
-- nothing is pending.
use Rattle.std.specs.Prelude.{ℕ, Bool, true, false, not, List, [], Option, Some, None, IfSome, ◌≡◌, ◌↔◌, ◌<◌, ◌==◌, ◌||◌, is_some, unwrap_or, if◌then◌else◌}
use Rattle.std.proofs.Common.{arith, refl, sym, ap, ap₂, ◌∙◌, subst}
use Rattle.std.proofs.lemmas.Bool.{eqb-true}
use Rattle.m88_ctrl.specs.ControlRegisters.{carry_of}
use Rattle.m88_event.proofs.Laws.{drained_bus, issued_of, outcome_seen}
use Rattle.m88_event.specs.Local.{Local, local_at}
use Rattle.m88_event.specs.Run.{outcome_at, outcome_by}
use Rattle.m88_event.specs.Timeline.{Moment, Run, end_of_turn, is_drained, is_idle, is_over}
use Rattle.m88_event.specs.declared.happened.End.{End}
use Rattle.m88_event.specs.declared.happened.End.TheVariants.{Limit}
use Rattle.m88_event.specs.declared.outcome.Outcome.{Outcome}
use Rattle.m88_isa.proofs.Laws.{first_of, program_of_image, second_of}
use Rattle.m88_isa.specs.Bus.{after_accesses, changed_words, in_words, waits_for}
use Rattle.m88_isa.specs.Held.{is_pending}
use Rattle.m88_isa.specs.History.{completed_state, transaction_count}
use Rattle.m88_isa.specs.Machine.{Program, opening, state, turn_at}
use Rattle.m88_isa.specs.declared.planned.Access.{Access}
use Rattle.m88_mem.specs.DataBus.{bus_of, image_bus}
use Rattle.m88_scoreboard.specs.Registers.{none_waits, waiting_of}
use Rattle.m88_board.proofs.Moving.{empty_of}
use Rattle.m88_board.proofs.Walking.{drained_by}
use Rattle.m88_board.proofs.Shown.{over_at}
use Rattle.m88_board.proofs.Starting.{same_bytes}
use Rattle.m88_board.specs.Board.{BoardView, cells_in, completed_of, is_idle_board, local_of}
use Rattle.m88_board.specs.Kept.{IsKept, IsProgramEnd}
use Rattle.m88_board.specs.Inside.Books.{outcome_in}
use Rattle.m88_board.specs.Moves.{IsAt}
use Rattle.m88_board.specs.Shown.{IsSettled}

not_pending : (t : Bool) → not t ≡ true → t ≡ false
not_pending true h = sym h
not_pending false h = refl

-- the registers are those of the history
pub none_wait : (b : BoardView) → IsKept b → b.pending ≡ [] → waiting_of b.file ≡ none_waits
unfolding waits_for
none_wait b kept none = kept.parts.waiting ∙ ap waits_for none

-- what is seen of a board with nothing pending has its registers and its words
pub registers_seen : (b : BoardView) → b.pending ≡ [] → b.file.numbers ≡ (completed_of b).regs
unfolding completed_of after_accesses
registers_seen b none = sym (ap (λ (xs : List Access). (after_accesses xs (cells_in b.file b.memory)).regs) none)

pub words_seen : (b : BoardView) → b.pending ≡ [] → bus_of b.memory ≡ (completed_of b).bus
unfolding completed_of after_accesses
words_seen b none = sym (ap (λ (xs : List Access). (after_accesses xs (cells_in b.file b.memory)).bus) none)

-- the whole, as it is seen
pub came_to : (b : BoardView) (regs : List ℕ) (carry : Bool) (o : Outcome) →
    IsKept b →
    b.pending ≡ [] →
    (waiting_of b.file ≡ none_waits → regs ≡ b.file.numbers) →
    carry ≡ carry_of b.control →
    o ≡ outcome_in b.book regs carry b.memory →
    o ≡ outcome_by (image_bus b.memory.image) (local_of b)
unfolding outcome_by local_of completed_of
came_to b regs carry o kept none values carries comes =
    let regs_are = values (none_wait b kept none) ∙ registers_seen b none in
    let changed_is = ap (changed_words (image_bus b.memory.image)) (words_seen b none) in
    comes ∙ (λ i. record {
      end = unwrap_or b.ended Limit;
      retired = b.retired;
      regs = regs_are i;
      carry = carries i;
      out = b.out;
      changed = changed_is i;
      events = b.events;
      answers = b.answers;
      records = b.records;
    })

-- at a moment
module _ (r : Run) (m : Moment) (b : BoardView) (at : IsAt r m b) where
  -- where a run is over, nothing is pending
  pub none_left : is_over r m ≡ true → b.pending ≡ []
  none_left over =
      empty_of b.pending (not_pending (is_pending b.pending)
      (drained_by r m b at ∙ first_of (is_drained r.program m) (is_idle r m) over))

  pub registers_are : b.pending ≡ [] → b.file.numbers ≡ (state r.program m.retired).regs
  unfolding local_of completed_of local_at completed_state after_accesses
  registers_are none =
      sym (ap (λ (xs : List Access). (after_accesses xs (cells_in b.file b.memory)).regs) none)
      ∙ ap (λ (l : Local). l.completed.regs) at.seen

  -- and so is memory
  pub memory_is : IsKept b → is_drained r.program m ≡ true → bus_of b.memory ≡ in_words (state r.program m.retired).memory
  unfolding local_of local_at
  memory_is kept drained =
      ap (λ (l : Local). l.bus) at.seen
      ∙ drained_bus r.program m.retired m.done (program_of_image b.memory.image r.program kept.image at.image)
      (eqb-true m.done (transaction_count r.program m.retired) drained)

  -- the outcome
  pub came_to_at : (o : Outcome) → o ≡ outcome_by (image_bus b.memory.image) (local_of b) → o ≡ outcome_at r.program m
  unfolding opening
  came_to_at o is =
      is ∙ ap₂ outcome_by (same_bytes r.program b.memory.image at.image) at.seen ∙ outcome_seen r m

  -- with nothing pending it shows the state of the history
  pub settled : IsKept b → is_drained r.program m ≡ true → b.pending ≡ [] → IsSettled r.program m b
  unfolding local_of completed_of local_at completed_state
  settled kept drained none = record {
    retired = ap (λ (l : Local). l.retired) at.seen;
    bubble = ap (λ (l : Local). l.bubble) at.seen;
    ended = ap (λ (l : Local). l.ended) at.seen;
    waiting = none_wait b kept none;
    registers = registers_are none;
    carry = ap (λ (l : Local). l.completed.carry) at.seen;
    out = ap (λ (l : Local). l.completed.out) at.seen;
    words = memory_is kept drained;
  }

-- and so at the moment before it was drained
pub settled_before : (p : Program) (before after : Moment) (b : BoardView) → issued_of after ≡ issued_of before →
    IsSettled p after b →
    IsSettled p before b
settled_before p before after b same seen = record {
  retired = seen.retired ∙ ap (λ (t : ℕ × Bool × Bool). t.0) same;
  bubble = seen.bubble ∙ ap (λ (t : ℕ × Bool × Bool). t.1) same;
  ended = seen.ended ∙ ap (λ (t : ℕ × Bool × Bool). if t.2 then Some (end_of_turn (turn_at p (state p t.0))) else None) same;
  waiting = seen.waiting;
  registers = seen.registers ∙ ap (λ (t : ℕ × Bool × Bool). (state p t.0).regs) same;
  carry = seen.carry ∙ ap (λ (t : ℕ × Bool × Bool). (state p t.0).carry) same;
  out = seen.out ∙ ap (λ (t : ℕ × Bool × Bool). (state p t.0).out) same;
  words = seen.words ∙ ap (λ (t : ℕ × Bool × Bool). in_words (state p t.0).memory) same;
}

-- a run that is over ended by its limit exactly where it retired as many
limited_by : (ended : Option End) (retired limit : ℕ) (end : End) →
    (is_some ended ≡ true → retired < limit) →
    IfSome ended IsProgramEnd →
    (is_some ended || retired == limit) ≡ true →
    end ≡ unwrap_or ended Limit →
    (end ≡ Limit) ↔ (retired ≡ limit)
limited_by None retired limit end early ends idle is = (λ h. eqb-true retired limit idle, λ h. is)
limited_by (Some e) retired limit end early ends idle is = (
  λ h. absurd (subst IsProgramEnd (sym is ∙ h) ends),
  λ h. absurd (let less = early refl in omega (arith, less, h)),
)

over_idle : (r : Run) (m : Moment) (b : BoardView) → IsAt r m b → is_over r m ≡ true → is_idle_board b ≡ true
unfolding local_of
over_idle r m b at over = second_of (not (is_pending b.pending)) (is_idle_board b) (over_at r m b at ∙ over)

pub limited : (r : Run) (m : Moment) (b : BoardView) (regs : List ℕ) (carry : Bool) (o : Outcome) → IsKept b → IsAt r m b →
    is_over r m ≡ true → o ≡ outcome_in b.book regs carry b.memory → (o.end ≡ Limit) ↔ (o.retired ≡ b.limit)
limited r m b regs carry o kept at over comes =
    subst (λ (x : Outcome). (x.end ≡ Limit) ↔ (x.retired ≡ b.limit)) (sym comes)
    (limited_by b.ended b.retired b.limit (unwrap_or b.ended Limit) kept.early kept.ends (over_idle r m b at over) refl)
