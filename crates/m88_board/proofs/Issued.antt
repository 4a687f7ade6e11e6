-- An instruction is issued: what is seen of it, and what always holds of a board goes on to hold.
use Rattle.std.specs.Prelude.{ℕ, Bool, true, false, List, [], ◌∷◌, ◌++◌, All, IfSome, ◌≡◌, ◌≢◌, ◌≤◌, ◌+◌, ◌==◌, length, if◌then◌else◌}
use Rattle.std.proofs.Common.{arith, refl, sym, ap, ap₂, ◌∙◌, subst, length-append}
use Rattle.std.proofs.lemmas.Bool.{eqb-false, eqb-true}
use Rattle.std.proofs.lemmas.List.Elements.{All-append, All-cons, All-nil, All-weaker}
use Rattle.m88_base.specs.Image.{IsImage}
use Rattle.m88_base.specs.Pages.{page_number}
use Rattle.m88_base.specs.Reg.{number_of}
use Rattle.m88_ctrl.specs.ControlRegisters.{ControlRegisters, carry_of, mxm_of, with_carry}
use Rattle.m88_dunit.specs.Pending.{CanIssue}
use Rattle.m88_event.specs.Choice.{issues}
use Rattle.m88_event.specs.Shadow.{status_of}
use Rattle.m88_event.specs.declared.record.Record.{Record}
use Rattle.m88_isa.proofs.Laws.{by_test, late_change, listed_recorded}
use Rattle.m88_isa.specs.Bus.{LoadApart, after_accesses, listed, waits_for}
use Rattle.m88_isa.specs.Effect.{Change, recorded_change}
use Rattle.m88_isa.specs.Held.{most_pending}
use Rattle.m88_isa.specs.History.{change_accesses}
use Rattle.m88_isa.specs.Machine.{with_written}
use Rattle.m88_isa.specs.Memory.{IsWordAccess}
use Rattle.m88_isa.specs.declared.planned.Access.{Access}
use Rattle.m88_isa.specs.declared.planned.Accesses.{Accesses}
use Rattle.m88_isa.specs.declared.planned.Effect.{Effect}
use Rattle.m88_iunit.specs.Pointers.{Pointers}
use Rattle.m88_mem.specs.DataBus.{MemoryView, StaysReady, absent_of, bus_of, ready_of}
use Rattle.m88_scoreboard.specs.Registers.{Registers, waiting_of}
use Rattle.m88_board.proofs.Steps.{issued}
use Rattle.m88_board.proofs.Stopping.{no_end}
use Rattle.m88_board.specs.Board.{BoardView, cells_in, completed_of, is_idle_board}
use Rattle.m88_board.specs.Kept.{AreReady, HasReadyPage, IsKept, SlotsAgree}
use Rattle.m88_board.specs.Inside.Events.{Does}
use Rattle.m88_board.specs.Inside.Turns.{IsAdvanced}
use Rattle.m88_board.proofs.Carry.{carried}
use Rattle.m88_board.proofs.Going.{not_ended, one_more}

-- up to two accesses are as many as they say
pub listed_count : (a : Accesses) → a.count ≤ 2 → length (listed a) ≡ a.count
listed_count a h = by_test (a.count == 0)
    (λ none. rw none (sym (eqb-true a.count 0 none)))
    (λ some. by_test (a.count == 1)
    (λ one. rw (some, one) (sym (eqb-true a.count 1 one)))
    (λ two. let no : a.count ≢ 0 = eqb-false a.count 0 some in let other : a.count ≢ 1 = eqb-false a.count 1 two in
    rw (some, two) (omega (arith, h, no, other))))

-- each of them is one that the data unit can make
pub listed_made : (a : Accesses) → CanIssue a → All IsWordAccess (listed a)
listed_made a can = by_test (a.count == 0)
    (λ none. rw none (All-nil IsWordAccess))
    (λ some. let no : a.count ≢ 0 = eqb-false a.count 0 some in by_test (a.count == 1)
    (λ one. rw (some, one) (All-cons IsWordAccess a.first [] (can.first (omega (arith, no))) (All-nil IsWordAccess)))
    (λ two. let other : a.count ≢ 1 = eqb-false a.count 1 two in
    rw (some, two) (All-cons IsWordAccess a.first (a.second ∷ []) (can.first (omega (arith, no)))
    (All-cons IsWordAccess a.second [] (can.second (omega (arith, no, other))) (All-nil IsWordAccess)))))

-- the status of a program that goes on stands in PSR
pub status_same : (b : BoardView) → IsKept b → is_idle_board b ≡ false →
    b.control.psr ≡ status_of (carry_of b.control) (mxm_of b.control)
status_same b kept goes =
    sym (ap (λ (t : Bool). if t then b.control.epsr else b.control.psr) (not_ended b goes)) ∙ kept.status

-- and so it does with another carry
pub status_changed : (b : BoardView) (control : ControlRegisters) (carry : Bool) → IsKept b → is_idle_board b ≡ false →
    control ≡ record b.control { psr = with_carry carry b.control.psr } →
    carry_of control ≡ carry →
    mxm_of control ≡ mxm_of b.control →
    control.psr ≡ status_of (carry_of control) (mxm_of control)
status_changed b control carry kept goes changed carries same_mxm =
    ap (λ (c : ControlRegisters). c.psr) changed
    ∙ ap (with_carry carry) (status_same b kept goes)
    ∙ carried (mxm_of b.control) (carry_of b.control) carry
    ∙ ap₂ status_of (sym carries) (sym same_mxm)

-- an instruction is issued
pub kept_issued : (b : BoardView) (accesses : Accesses) (slots : Pointers) (pending : List Access) (file : Registers)
    (memory : MemoryView) (control : ControlRegisters) →
    IsKept b →
    is_idle_board b ≡ false →
    CanIssue accesses →
    length b.pending + accesses.count ≤ most_pending →
    LoadApart (b.pending ++ listed accesses) →
    pending ≡ b.pending ++ listed accesses →
    waiting_of file ≡ waits_for pending →
    StaysReady b.memory memory →
    AreReady (ready_of memory) (listed accesses) →
    SlotsAgree memory.image slots →
    slots.xip.v ≡ true →
    memory.image ≡ b.memory.image →
    control.psr ≡ status_of (carry_of control) (mxm_of control) →
    IsKept (record b {
      slots = slots;
      pending = pending;
      file = file;
      memory = memory;
      control = control;
      book = record b.book { retired = b.retired + 1 };
    })
kept_issued b accesses slots pending file memory control kept goes can room apart joined waiting stays ready agree
    behind image status =
    let more = length-append b.pending (listed accesses) in
    let count = listed_count accesses can.count in
    let all = ap length joined in
    let most = can.count in
    let made = kept.made in
    let puts = kept.put_out in
    let going = not_ended b goes in
    record {
      parts = record {
        few = omega (arith, all, more, count, room);
        made = subst (λ (xs : List Access). All IsWordAccess xs) (sym joined)
            (All-append IsWordAccess b.pending (listed accesses) kept.parts.made (listed_made accesses can));
        apart = subst (λ (xs : List Access). LoadApart xs) (sym joined) apart;
        waiting = waiting;
        ready = subst (λ (xs : List Access). AreReady (ready_of memory) xs) (sym joined)
            (All-append (HasReadyPage (ready_of memory)) b.pending (listed accesses)
            (All-weaker (HasReadyPage (ready_of b.memory)) (HasReadyPage (ready_of memory))
            (λ a h write. stays (page_number a.addr) (h write)) b.pending kept.parts.ready)
            ready);
      };
      image = subst IsImage (sym image) kept.image;
      slots = agree;
      bubbled = λ bubble. record { some = omega arith; xip = behind };
      unbubbled = λ ended. absurd (let no = going in cc);
      status = ap (λ (t : Bool). if t then control.epsr else control.psr) going ∙ status;
      drained = λ ended. absurd (let no = going in cc);
      made = omega (arith, all, more, count, most, made);
      told = kept.told;
      put_out = omega (arith, puts);
      within = one_more b goes kept.within;
      early = λ ended. absurd (let no = going in cc);
      ends = kept.ends;
      ends_so = rw (no_end b.ended going) tt;
      small = kept.small;
      counted = kept.counted;
    }

pub issued_by : (fault : Record) (change : Change) (effect : Effect) (b : BoardView) (slots : Pointers) (pending : List Access)
    (file : Registers) (memory : MemoryView) (control : ControlRegisters) →
    effect ≡ recorded_change change →
    length change.touches ≤ 2 →
    IfSome effect.reg (λ w. waits_for b.pending (number_of w.0) ≡ false) →
    IsAdvanced b.slots slots effect.after.0 effect.after.1 effect.bubble →
    pending ≡ b.pending ++ listed effect.accesses →
    file.numbers ≡ with_written effect.reg b.file.numbers →
    bus_of memory ≡ bus_of b.memory →
    absent_of memory ≡ absent_of b.memory →
    memory.image ≡ b.memory.image →
    carry_of control ≡ effect.carry →
    mxm_of control ≡ mxm_of b.control →
    Does (issues change) fault b (record b {
      slots = slots;
      pending = pending;
      file = file;
      memory = memory;
      control = control;
      book = record b.book { retired = b.retired + 1 };
    })
unfolding completed_of
issued_by fault change effect b slots pending file memory control is few free on joined numbers bus absent image carries same_mxm =
    let seen : listed effect.accesses ≡ change_accesses change =
    ap (λ (e : Effect). listed e.accesses) is ∙ listed_recorded change.touches few in
    let register = ap (λ (e : Effect). e.reg) is in
    let cells : cells_in file memory ≡ record { regs = with_written change.register b.file.numbers; bus = bus_of b.memory } =
    ap₂ (λ (r : List ℕ) (words : ℕ → ℕ). record { regs = r; bus = words })
    (numbers ∙ ap (λ w. with_written w b.file.numbers) register) bus in
    issued fault change b slots pending file memory control
    (subst (λ (e : Effect). IsAdvanced b.slots slots e.after.0 e.after.1 e.bubble) is on)
    (joined ∙ ap (λ (xs : List Access). b.pending ++ xs) seen)
    (ap (after_accesses (b.pending ++ change_accesses change)) cells
    ∙ late_change b.pending change (cells_in b.file b.memory) (completed_of b) refl refl
    (subst (λ w. IfSome w (λ w. waits_for b.pending (number_of w.0) ≡ false)) register free))
    bus absent image
    (carries ∙ ap (λ (e : Effect). e.carry) is) same_mxm
