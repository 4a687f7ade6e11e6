-- A data fault that is handed over: the parts of the board, and what is seen of them; and the exception that the letter
-- `i` takes.
use Rattle.std.specs.Prelude.{ℕ, Bool, true, false, not, List, [], ◌∷◌, ◌++◌, Option, Some, None, ◌≡◌, ◌<◌, ◌↔◌, ◌+◌, ◌==◌, ◌&&◌, length, slice_index, unwrap_or}
use Rattle.std.proofs.Common.{arith, ap, length-append, refl, sym, ◌∙◌}
use Rattle.std.proofs.lemmas.Bool.{eqb-true}
use Rattle.m88_base.specs.declared.slot.Slot.{Slot}
use Rattle.m88_ctrl.specs.ControlRegisters.{mxm_of}
use Rattle.m88_event.proofs.Laws.{IsLastChoice, precise_choice}
use Rattle.m88_event.specs.Choice.{Choice, faults, issue_choice, next_choice, turn_choice}
use Rattle.m88_event.specs.Local.{choice_by, register_seen, situation_of}
use Rattle.m88_event.specs.declared.happened.End.{End}
use Rattle.m88_event.specs.declared.letter.Letter.TheVariants.{Answer, Issue}
use Rattle.m88_event.specs.declared.record.Record.{Record}
use Rattle.m88_isa.proofs.Laws.{by_test, first_of, nothing_held}
use Rattle.m88_isa.specs.Bus.{waits_for}
use Rattle.m88_isa.specs.Effect.{Change, goes, plan_for}
use Rattle.m88_isa.specs.Held.{Hold, busy_register, first_reason, is_pending}
use Rattle.m88_isa.specs.Machine.{Program, Turn, by_vector, changes, exits, outputs, stops, trapped}
use Rattle.m88_isa.specs.Monitor.{exit_service, monitor_trap, put_service, service_register}
use Rattle.m88_isa.specs.declared.instr.Instr.{Instr}
use Rattle.m88_isa.specs.declared.planned.Access.{Access}
use Rattle.m88_isa.specs.declared.planned.Effect.{Effect}
use Rattle.m88_isa.specs.declared.planned.Plan.TheVariants.{Go}
use Rattle.m88_mem.specs.DataBus.{absent_of}
use Rattle.m88_scoreboard.specs.Registers.{shown_at, waiting_of}
use Rattle.m88_board.proofs.Beginning.{xip_back}
use Rattle.m88_board.proofs.Brought.{comes_by}
use Rattle.m88_board.proofs.Choosing.{faults_some, stopping_ends}
use Rattle.m88_board.proofs.Going.{still_going}
use Rattle.m88_board.proofs.Issuing.{by_meaning, go_is}
use Rattle.m88_board.proofs.Shown.{value_seen}
use Rattle.m88_board.proofs.Stopping.{no_end}
use Rattle.m88_board.specs.Board.{BoardView, completed_of, local_of, pc_of}
use Rattle.m88_board.specs.Handed.{MeetsFault, TakesNext, handed_over, parts_handed, vector_of}
use Rattle.m88_board.specs.Inside.Turns.{IssueComesTo, choice_for, meaning_at, stopping}
use Rattle.m88_board.specs.Kept.{IsKept, most_events}
use Rattle.m88_board.specs.Parts.{MayBegin, MayPass, parts_with, seen_at, seen_of_parts}
use Rattle.m88_board.specs.declared.parts.Parts.{Parts}

-- the letter `r` meets a fault, as it is seen
pub fault_seen : (p : Program) (b : BoardView) (t : Bool) → ((t ≡ true) ↔ MeetsFault b) →
    (t ≡ true) ↔ (choice_by p b.limit Answer (local_of b) ≡ faults)
unfolding situation_of local_of
fault_seen p b t is = is

-- the parts
pub handed : (b : BoardView) (parts : Parts) (count : ℕ) (records : List Record) (fault : Record) →
    parts ≡ parts_with parts.regs b →
    count ≡ length b.pending →
    records ≡ parts.records ++ (fault ∷ []) →
    record parts { done = parts.done + count; events = parts.events + 1; records = records }
    ≡ parts_handed parts.regs fault b
handed b parts count records fault are counted joined =
    (λ i. record parts { done = parts.done + counted i; events = parts.events + 1; records = joined i })
    ∙ ap (λ (x : Parts). record x {
      done = x.done + length b.pending;
      events = x.events + 1;
      records = x.records ++ (fault ∷ []);
    }) are

-- a register that waits is 0, every other has its value
pub found_is : (b : BoardView) (r : ℕ) → IsKept b →
    shown_at b.file r ≡ unwrap_or (register_seen (local_of b).pending (local_of b).completed.regs r) 0
unfolding local_of
found_is b r kept =
    let same : waiting_of b.file r ≡ waits_for b.pending r = ap (λ (set : ℕ → Bool). set r) kept.parts.waiting in
    by_test (waits_for b.pending r)
    (λ waits. rw (same, waits) refl)
    (λ free. rw (same, free) (value_seen b r free))

-- what is seen
pub seen_handed : (b : BoardView) (regs : List ℕ) (fault : Record) → IsKept b → MeetsFault b →
    seen_at (mxm_of b.control) (not b.slots.nip.v) (parts_handed regs fault b)
    ≡ handed_over regs fault (local_of b)
unfolding seen_of_parts local_of completed_of handed_over
seen_handed b regs fault kept meets =
    let going = no_end b.ended (still_going b kept (faults_some b.pending (absent_of b.memory) meets)) in
    ap (λ (x : Slot). record (handed_over regs fault (local_of b)) { xip = x; ended = None }) (xip_back b.slots.xip kept.slots.xip)
    ∙ ap (λ (e : Option End). record (handed_over regs fault (local_of b)) { ended = e }) (sym going)

-- a board may go on from them
pub may_begin_handed : (b : BoardView) (regs : List ℕ) (fault : Record) → IsKept b → MeetsFault b → b.events < most_events →
    MayBegin (parts_with regs b) b.limit → MayBegin (parts_handed regs fault b) b.limit
may_begin_handed b regs fault kept meets few may =
    let some = faults_some b.pending (absent_of b.memory) meets in
    let made = kept.made in
    let told = kept.told in
    let longer = length-append b.records (fault ∷ []) in
    record {
      zero = may.zero;
      pc = may.pc;
      next = may.next;
      last = may.last;
      within = may.within;
      small = may.small;
      counted = omega (arith, few);
      made = omega (arith, made);
      told = omega (arith, told, some, longer);
      put_out = may.put_out;
    }

pub may_pass_handed : (b : BoardView) (regs : List ℕ) (fault : Record) → MayPass (parts_with regs b) →
    MayPass (parts_handed regs fault b)
may_pass_handed b regs fault may = record { some = may.some; last = may.last; straight = may.straight }

-- the letter `i` takes the exception of what it comes to
pub takes_by : (b : BoardView) (choice : Choice) (vector : Option ℕ) → IssueComesTo choice b → vector ≡ vector_of choice →
    TakesNext vector b
takes_by b choice vector comes is = λ p of. is ∙ ap vector_of (sym (comes p of))

-- a choice of it that doesn't serve or end is none of these
no_exception : (idle bubble : Bool) (why : Option Hold) (t : Turn) → (IsLastChoice (issue_choice idle bubble why t) → ⊥) →
    None ≡ vector_of (issue_choice idle bubble why t)
no_exception true bubble why t goes_on = refl
no_exception false true why t goes_on = refl
no_exception false false (Some hold) t goes_on = refl
no_exception false false None (changes change) goes_on = refl
no_exception false false None (outputs byte) goes_on = absurd (goes_on tt)
no_exception false false None (stops (exits at)) goes_on = absurd (goes_on tt)
no_exception false false None (stops (by_vector vector at)) goes_on = absurd (goes_on tt)

-- while something is pending it takes none
pub pending_takes_none : (b : BoardView) → is_pending b.pending ≡ true → TakesNext None b
unfolding situation_of local_of
pending_takes_none b some = λ p of.
    no_exception _ _ _ _ (λ last.
    let none : is_pending b.pending ≡ false = precise_choice p Issue (situation_of b.limit (local_of b)) last in
    absurd (let no = sym some ∙ none in cc))

-- nothing is busy where nothing is pending
no_register : (o : Option ℕ) (no_room waits : Bool) → first_reason o no_room waits ≡ None → o ≡ None
no_register None no_room waits h = refl
no_register (Some register) no_room waits h = absurd cc

pub none_busy : (i : Instr) (pending : List Access) → pending ≡ [] → busy_register (Some i) pending ≡ None
none_busy i pending none =
    ap (busy_register (Some i)) none
    ∙ no_register (busy_register (Some i) []) _ _ (nothing_held (Some i) (stops (exits 0)) tt)

-- what raises with nothing pending is taken
pub raise_taken : (b : BoardView) (vector : ℕ) → b.pending ≡ [] →
    IssueComesTo (stopping (by_vector vector (pc_of b.slots)) b.pending) b →
    TakesNext (Some vector) b
raise_taken b vector none comes =
    takes_by b _ (Some vector) (comes_by _ _ b comes (stopping_ends (by_vector vector (pc_of b.slots)) b.pending none)) refl

-- and so is a trap
trap_vector : (vector pc : ℕ) (regs : List ℕ) → Some vector ≡ vector_of (turn_choice (trapped vector regs pc))
trap_vector vector pc regs =
    by_test (vector == monitor_trap && slice_index regs service_register == put_service)
    (λ put. rw put (monitors vector _ put))
    (λ other. rw other (by_test (vector == monitor_trap && slice_index regs service_register == exit_service)
    (λ exit. rw exit (monitors vector _ exit))
    (λ none. rw none refl)))
  where
    monitors : (vector : ℕ) (asks : Bool) → (vector == monitor_trap && asks) ≡ true → Some vector ≡ Some monitor_trap
    monitors vector asks both = ap (λ v. Some v) (eqb-true vector monitor_trap (first_of (vector == monitor_trap) asks both))

pub trap_taken : (b : BoardView) (vector : ℕ) →
    IssueComesTo (turn_choice (trapped vector b.file.numbers (pc_of b.slots))) b →
    TakesNext (Some vector) b
trap_taken b vector comes = takes_by b _ (Some vector) comes (trap_vector vector (pc_of b.slots) b.file.numbers)

-- an instruction that goes on takes none
going_none : (why : Option Hold) (change : Change) → None ≡ vector_of (next_choice why (changes change))
going_none None change = refl
going_none (Some hold) change = refl

pub going_takes_none : (i : Instr) (b : BoardView) (effect : Effect) → IssueComesTo (choice_for (Some i) b) b →
    Go effect ≡ plan_for (meaning_at i (completed_of b)) →
    TakesNext None b
going_takes_none i b effect comes is =
    let on = go_is (meaning_at i (completed_of b)) effect is in
    takes_by b _ None (comes_by _ _ b comes (by_meaning i b (goes on.change) on.means)) (going_none _ on.change)
