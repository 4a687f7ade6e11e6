-- An instruction that goes on: what its outline says of its changes.
use Rattle.std.specs.Prelude.{ℕ, Bool, false, Some, ◌≡◌, ◌≤◌, ◌+◌, ◌++◌, ◌&&◌, List, [], IfSome, None, length, nat_lt}
use Rattle.std.proofs.Common.{arith, ap, subst, sym}
use Rattle.std.proofs.lemmas.Bool.{ltb-true, ltb-false}
use Rattle.std.proofs.lemmas.List.{append-nil}
use Rattle.std.proofs.lemmas.List.Elements.{All-nil}
use Rattle.m88_base.specs.Reg.{number_of}
use Rattle.m88_dunit.specs.Pending.{CanIssue}
use Rattle.m88_event.specs.Choice.{issues}
use Rattle.m88_isa.proofs.Laws.{at_most_two, by_test, written_waits_not}
use Rattle.m88_isa.specs.Bus.{listed, waits_for}
use Rattle.m88_isa.specs.Effect.{Change, recorded_change}
use Rattle.m88_isa.specs.Held.{busy_register, is_pending, most_pending}
use Rattle.m88_isa.specs.Instr.{IsValid}
use Rattle.m88_isa.specs.Memory.{AreWordAccesses, recorded}
use Rattle.m88_isa.specs.Operands.{waits_for_empty}
use Rattle.m88_isa.specs.declared.instr.Instr.{Instr}
use Rattle.m88_isa.specs.declared.planned.Access.{Access}
use Rattle.m88_isa.specs.declared.planned.Accesses.{Accesses}
use Rattle.m88_isa.specs.declared.planned.Effect.{Effect}
use Rattle.m88_isa.specs.declared.planned.Plan.{Plan}
use Rattle.m88_isa.specs.declared.planned.Plan.TheVariants.{Go}
use Rattle.m88_board.proofs.Issuing.{IsGoing, go_full, go_issued, go_sync, is_going}
use Rattle.m88_board.proofs.Telling.{change_told}
use Rattle.m88_board.specs.Board.{BoardView}
use Rattle.m88_board.specs.Kept.{AreReady, HasReadyPage}
use Rattle.m88_board.specs.Inside.Turns.{IsPlanOf, IsPlanned, choice_for}

-- by a plan of which all is told that holds of every plan
pub planned_from : (i : Instr) (effect : Effect) (b : BoardView) (plan : Plan) → plan ≡ Go effect →
    IsValid i →
    busy_register (Some i) b.pending ≡ None →
    IsPlanOf i plan b →
    IsPlanned i effect b
planned_from i effect b plan is valid free planned =
    let known = subst (λ p. IsPlanOf i p b) is planned in
    record {
      instr = valid;
      free = free;
      means = known.means;
      made = known.made;
      written = known.written;
      flow = known.flow;
      page = known.page;
    }

-- what it comes to goes on with those changes
pub going_of : (i : Instr) (effect : Effect) (b : BoardView) → IsPlanned i effect b → IsGoing i b effect
going_of i effect b planned = is_going i b effect planned.means planned.instr planned.made planned.free

-- the register that it writes doesn't wait
pub free_of : (i : Instr) (effect : Effect) (b : BoardView) → IsPlanned i effect b →
    IfSome effect.reg (λ w. waits_for b.pending (number_of w.0) ≡ false)
free_of i effect b planned = written_waits_not i b.pending effect.reg planned.free planned.written

-- its accesses are ones that the data unit can make
pub can_of : (i : Instr) (effect : Effect) (b : BoardView) → IsPlanned i effect b → CanIssue effect.accesses
can_of i effect b planned =
    let count = planned.made.0 in
    let most = at_most_two i in
    record {
      count = omega (arith, count, most);
      first = λ some. planned.made.1 (omega (arith, count, some));
      second = λ two. planned.made.2 (omega (arith, count, two));
    }

-- they are so many accesses of words
pub words_of : (i : Instr) (effect : Effect) (b : BoardView) → IsPlanned i effect b →
    AreWordAccesses effect.accesses.count effect.accesses
words_of i effect b planned = subst (λ n. AreWordAccesses n effect.accesses) (sym planned.made.0) planned.made

-- where it makes none, there is room for them
pub room_for_none : (pending : List Access) (accesses : Accesses) → accesses ≡ recorded [] →
    length pending ≤ most_pending →
    length pending + accesses.count ≤ most_pending
room_for_none pending accesses none few =
    let count = ap (λ (a : Accesses). a.count) none in
    omega (arith, count, few)

-- and the pending ones stay as they are
pub none_more : (pending : List Access) (accesses : Accesses) → accesses ≡ recorded [] →
    pending ≡ pending ++ listed accesses
none_more pending accesses none = rw none (sym (append-nil pending))

-- no access is one that the data unit can make
pub can_make_none : (accesses : Accesses) → accesses ≡ recorded [] → CanIssue accesses
can_make_none accesses none =
    let count = ap (λ (a : Accesses). a.count) none in
    record {
      count = omega (arith, count);
      first = λ some. absurd (omega (arith, count, some));
      second = λ two. absurd (omega (arith, count, two));
    }

-- and wants no page
pub none_ready : (ready : ℕ → Bool) (accesses : Accesses) → accesses ≡ recorded [] → AreReady ready (listed accesses)
none_ready ready accesses none = rw none (All-nil (HasReadyPage ready))

-- it is issued with those changes alone
pub planned_issues : (i : Instr) (effect : Effect) (b : BoardView) (change : Change) → IsPlanned i effect b →
    choice_for (Some i) b ≡ issues change →
    Go effect ≡ Go (recorded_change change)
planned_issues i effect b change planned issued =
    let going = going_of i effect b planned in
    by_test (nat_lt most_pending (length b.pending + effect.accesses.count))
    (λ full. let waits = go_full i b effect going (ltb-true _ _ full) in absurd cc)
    (λ room. let few : length b.pending + effect.accesses.count ≤ most_pending = ltb-false _ _ room in
    by_test (is_pending b.pending && waits_for_empty i)
    (λ waits. let held = go_sync i b effect going few waits in absurd cc)
    (λ goes. change_told (choice_for (Some i) b) going.on.change change effect (go_issued i b effect going few goes)
    going.on.same issued))
