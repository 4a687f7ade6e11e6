-- What an event brings, by the choice that its letter comes to.
use Rattle.std.specs.Prelude.{ℕ, Bool, true, false, IfSome, None, List, [], ◌∷◌, ◌++◌, Some, ◌≡◌, ◌≤◌, ◌+◌, ◌&&◌, length, slice_get}
use Rattle.std.proofs.Common.{refl, sym, ◌∙◌, subst}
use Rattle.m88_base.specs.Reg.{number_of}
use Rattle.m88_event.specs.Choice.{Choice, answer_choice, faults, holds, idles, issues, turn_choice, why_of}
use Rattle.m88_event.specs.Local.{choice_by, record_by}
use Rattle.m88_event.specs.declared.happened.Happened.{Happened}
use Rattle.m88_event.specs.declared.letter.Letter.{Letter}
use Rattle.m88_event.specs.declared.letter.Letter.TheVariants.{Answer, Issue}
use Rattle.m88_event.specs.declared.record.Record.{Record}
use Rattle.m88_isa.specs.Bus.{waits_for}
use Rattle.m88_isa.specs.Effect.{Change, recorded_change}
use Rattle.m88_isa.specs.Held.{Hold, is_pending, most_pending}
use Rattle.m88_isa.specs.ImageProgram.{IsProgramOf}
use Rattle.m88_isa.specs.Machine.{Program, Stop, turn_of_service}
use Rattle.m88_isa.specs.Operands.{waits_for_empty}
use Rattle.m88_isa.specs.declared.instr.Instr.{Instr}
use Rattle.m88_isa.specs.declared.monitor.Service.{Service}
use Rattle.m88_isa.specs.declared.monitor.Service.TheVariants as service
use Rattle.m88_isa.specs.declared.planned.Access.{Access}
use Rattle.m88_isa.specs.declared.planned.Effect.{Effect}
use Rattle.m88_isa.specs.declared.planned.Plan.TheVariants.{Go}
use Rattle.m88_mem.specs.DataBus.{absent_of}
use Rattle.m88_board.proofs.Briefly.{fault_did, last_told}
use Rattle.m88_board.proofs.Choosing.{did_by}
use Rattle.m88_board.proofs.Counting.{does_events, no_record}
use Rattle.m88_board.proofs.Issuing.{at_most, go_issued, held_still}
use Rattle.m88_board.proofs.Moving.{answer_chosen}
use Rattle.m88_board.proofs.Planned.{free_of, going_of, planned_issues}
use Rattle.m88_board.specs.Board.{BoardView, local_of}
use Rattle.m88_board.specs.Inside.Briefly.{happened_of}
use Rattle.m88_board.specs.Inside.Events.{Brings, Did, Does, TellsPlan}
use Rattle.m88_board.specs.Inside.Turns.{IsPlanned, IssueComesTo, choice_for, stopping}
use Rattle.m88_board.specs.Moves.{IsStill}
use Rattle.m88_board.specs.Shown.{Leaves, ShowsFault, rest_of}
use Rattle.m88_board.specs.Told.{MakesWordAccesses}
use Rattle.m88_board.specs.declared.brief.Brief.{Brief}
use Rattle.m88_board.specs.declared.brief.Brief.TheVariants as brief
use Rattle.m88_board.specs.declared.told.Told.{Told}

-- by a choice that is no data fault
pub brought : (letter : Letter) (choice : Choice) (old : BoardView) (b : Brief) (new : BoardView) →
    ((p : Program) → IsProgramOf old.memory.image p → choice_by p old.limit letter (local_of old) ≡ choice) →
    ((fault : Record) → Did choice fault old (happened_of b new) new) →
    (IsStill (happened_of b new) → new ≡ old) →
    Leaves (happened_of b new) old new →
    Brings letter old b new
brought letter choice old b new comes did still leaves = record {
  did = λ p of. did_by _ choice (record_by p old.limit (local_of old)) old (happened_of b new) new (comes p of)
      (did (record_by p old.limit (local_of old)));
  same = (did no_record).does.same;
  events = does_events choice no_record old new (did no_record).does;
  still = still;
  leaves = leaves;
}

-- what the letter `i` comes to by another choice
pub comes_by : (one other : Choice) (b : BoardView) → IssueComesTo one b → one ≡ other → IssueComesTo other b
comes_by one other b comes same = λ p of. comes p of ∙ same

-- the next instruction is held
pub held_brings : (why : Hold) (b : BoardView) → IssueComesTo (holds why) b → Brings Issue b (brief.Stalled (why_of why)) b
held_brings why b comes =
    brought Issue (holds why) b (brief.Stalled (why_of why)) b comes (λ fault. held_still (holds why) why fault b refl)
    (λ still. refl) refl

-- the oldest transaction meets its fault, whose record is the last
pub fault_brings : (fault : Record) (old new : BoardView) →
    answer_choice old.pending (absent_of old.memory) ≡ faults →
    ((p : Program) → IsProgramOf old.memory.image p → fault ≡ record_by p old.limit (local_of old)) →
    new.records ≡ old.records ++ fault ∷ [] →
    Does faults fault old new →
    ShowsFault fault new.control × (rest_of new.control ≡ rest_of old.control) →
    Brings Answer old brief.Faulted new
fault_brings fault old new is recorded kept does shows =
    let told = last_told fault old new kept in
    record {
      did = λ p of. did_by _ faults (record_by p old.limit (local_of old)) old (happened_of brief.Faulted new) new
          (answer_chosen p old ∙ is)
          (fault_did (record_by p old.limit (local_of old)) fault old new kept (recorded p of) does);
      same = does.same;
      events = does_events faults fault old new does;
      still = λ still. absurd (subst IsStill told still);
      leaves = subst (λ (h : Happened). Leaves h old new) (sym told) shows;
    }

-- nothing is told of an instruction that isn't issued
pub tells_none : (choice : Choice) (b : BoardView) (told : Told) → IssueComesTo choice b →
    ((change : Change) → choice ≡ issues change → ⊥) →
    TellsPlan b told told
tells_none choice b told comes none = record {
  plan = λ asked p change of issued. absurd (none change (sym (comes p of) ∙ issued));
  made = λ made. made;
}

-- what raises is none
pub stopping_issues_none : (stop : Stop) (pending : List Access) (change : Change) →
    stopping stop pending ≡ issues change → ⊥
stopping_issues_none stop [] change issued = absurd cc
stopping_issues_none stop (a ∷ pending) change issued = absurd cc

-- nor is a taken trap
pub trap_issues_none : (s : Service) (vector pc : ℕ) (change : Change) →
    turn_choice (turn_of_service s vector pc) ≡ issues change → ⊥
trap_issues_none (service.Out byte) vector pc change issued = absurd cc
trap_issues_none _ vector pc change issued = absurd cc

-- of one that is issued its changes are told
pub tells_planned : (i : Instr) (effect : Effect) (b : BoardView) (before told : Told) → IsPlanned i effect b →
    IssueComesTo (choice_for (Some i) b) b →
    (before.asked ≡ true → told.plan ≡ Go effect) →
    (MakesWordAccesses before.plan → MakesWordAccesses told.plan) →
    TellsPlan b before told
tells_planned i effect b before told planned comes tells made = record {
  plan = λ asked p change of issued.
      tells asked ∙ planned_issues i effect b change planned (sym (comes p of) ∙ issued);
  made = made;
}

-- the next instruction is issued with these changes, and the register that is written doesn't wait
pub record IsIssuedWith (effect : Effect) (b : BoardView) : Type 0 where
  pub free : IfSome effect.reg (λ write. waits_for b.pending (number_of write.0) ≡ false)
  pub change : Change
  pub same : effect ≡ recorded_change change
  pub few : length change.touches ≤ 2
  pub comes : IssueComesTo (issues change) b

-- where nothing holds it, it is issued with its planned changes
pub issued_with : (i : Instr) (effect : Effect) (b : BoardView) → IsPlanned i effect b →
    IssueComesTo (choice_for (Some i) b) b →
    length b.pending + effect.accesses.count ≤ most_pending →
    (is_pending b.pending && waits_for_empty i) ≡ false →
    IsIssuedWith effect b
issued_with i effect b planned comes room goes_on =
    let going = going_of i effect b planned in
    record {
      free = free_of i effect b planned;
      change = going.on.change;
      same = going.on.same;
      few = at_most i b effect going;
      comes = comes_by _ _ b comes (go_issued i b effect going room goes_on);
    }

-- nothing is pending, and so nothing is answered
answers_none : (xs : List Access) (absent : ℕ → Bool) → slice_get xs 0 ≡ None → answer_choice xs absent ≡ idles
answers_none [] absent h = refl
answers_none (x ∷ xs) absent h = absurd cc

pub idle_brings : (b : BoardView) → slice_get b.pending 0 ≡ None → Brings Answer b brief.Idle b
idle_brings b none =
    brought Answer idles b brief.Idle b
    (λ p of. answer_chosen p b ∙ answers_none b.pending (absent_of b.memory) none)
    (λ fault. record { says = refl; does = record { moved = refl; same = record { limit = refl; mxm = refl; named = refl; image = refl; begun = refl } } })
    (λ still. refl) refl
