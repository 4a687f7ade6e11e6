-- What a board shows at a moment.
use Rattle.std.specs.Prelude.{ℕ, Bool, true, false, not, List, [], ◌∷◌, Option, Some, None, Result, Ok, Err, ◌≡◌, ◌↔◌, ◌&&◌, ◌==◌, IfOk, IsErr, IsTrue, is_some, slice_index, if◌then◌else◌}
use Rattle.std.specs.Result.{result_ok}
use Rattle.std.proofs.Common.{get_or-set_other, refl, sym, ap, ap₂, ◌∙◌, subst}
use Rattle.std.proofs.lemmas.Bool.{eqb-false, eqb-true}
use Rattle.m88_base.specs.Image.{byte_at}
use Rattle.m88_base.specs.Reg.{number_of}
use Rattle.m88_ctrl.specs.ControlRegisters.{carry_of, mxm_of}
use Rattle.m88_event.proofs.Laws.{ended_is, same_over}
use Rattle.m88_event.specs.Local.{Local, is_over_by, local_at, register_seen, register_shown}
use Rattle.m88_event.specs.Shadow.{fip_of, nip_of, status_of}
use Rattle.m88_event.specs.Timeline.{Moment, Run, is_over, nip_at}
use Rattle.m88_isa.proofs.Laws.{by_test, same_after_accesses}
use Rattle.m88_isa.specs.Bus.{Cells, after_access, after_accesses, loaded, waits_for}
use Rattle.m88_isa.specs.Held.{is_pending}
use Rattle.m88_isa.specs.History.{bus_at, completed_state, pending_at}
use Rattle.m88_isa.specs.ImageProgram.{IsProgramOf}
use Rattle.m88_isa.specs.Machine.{Program, state}
use Rattle.m88_isa.specs.declared.planned.Access.{Access}
use Rattle.m88_mem.specs.DataBus.{bus_of, ready_of}
use Rattle.m88_scoreboard.specs.Registers.{waiting_of}
use Rattle.m88_scoreboard.specs.declared.busy.Busy.{Busy}
use Rattle.m88_board.proofs.Records.{fip_is, nip_is}
use Rattle.m88_board.specs.Board.{BoardView, cells_in, completed_of, is_idle_board, local_of}
use Rattle.m88_board.specs.Glances.{glance_at, glance_of}
use Rattle.m88_board.specs.Kept.{AreReady, IsKept, SlotsAgree}
use Rattle.m88_board.specs.Moves.{IsAt}
use Rattle.m88_board.specs.Shown.{ArePointers, AreRegisters, IsDataBus, IsStatus}

-- a run is over where nothing is pending and no more may be issued
over_of : (b : BoardView) → (not (is_pending b.pending) && is_idle_board b) ≡ is_over_by b.limit (local_of b)
unfolding local_of
over_of b = refl

pub over_if : (b : BoardView) (pending idle : Bool) → pending ≡ is_pending b.pending → pending ≡ false →
    idle ≡ is_idle_board b →
    idle ≡ is_over_by b.limit (local_of b)
over_if b pending idle is none known =
    known ∙ sym (ap (λ (t : Bool). not t && is_idle_board b) (sym is ∙ none)) ∙ over_of b

pub not_over_if : (b : BoardView) (pending : Bool) → pending ≡ is_pending b.pending → pending ≡ true →
    not pending ≡ is_over_by b.limit (local_of b)
not_over_if b pending is some =
    ap not some ∙ sym (ap (λ (t : Bool). not t && is_idle_board b) (sym is ∙ some)) ∙ over_of b

-- NIP
nip_shown : (p : Program) (b : BoardView) → IsProgramOf b.memory.image p → SlotsAgree b.memory.image b.slots →
    b.slots.nip ≡ nip_of p (local_of b).bubble (local_of b).xip (local_of b).completed.pc
unfolding local_of completed_of
nip_shown p b of slots =
    nip_is (byte_at b.memory.image) p b.slots.xip b.slots.nip.addr b.slots.nip.v b.slots.nip.e b.slots.fip.addr of.bytes
    slots.nip

-- FIP
fip_shown : (p : Program) (b : BoardView) → IsProgramOf b.memory.image p → SlotsAgree b.memory.image b.slots →
    b.slots.fip ≡ fip_of p (local_of b).bubble (local_of b).completed.pc (local_of b).completed.next
unfolding local_of completed_of
fip_shown p b of slots =
    fip_is (byte_at b.memory.image) p b.slots.fip b.slots.nip.addr b.slots.nip.v of.bytes slots.fip

-- a register that doesn't wait has its value already
zero_after : (x : Access) (c : Cells) → slice_index (after_access x c).regs 0 ≡ slice_index c.regs 0
unfolding loaded
zero_after x c = by_test x.write
    (λ write. rw write refl)
    (λ read. by_test (number_of x.reg == 0)
    (λ zero. rw (read, zero) refl)
    (λ other. rw (read, other)
    (get_or-set_other c.regs (number_of x.reg) 0 (loaded x c.bus) 0
    (λ e. eqb-false (number_of x.reg) 0 other (sym e)))))

zero_stays : (xs : List Access) (c : Cells) → slice_index (after_accesses xs c).regs 0 ≡ slice_index c.regs 0
unfolding after_accesses
zero_stays [] c = refl
zero_stays (x ∷ xs) c = zero_stays xs (after_access x c) ∙ zero_after x c

value_stays : (xs : List Access) (c : Cells) (r : ℕ) → waits_for xs r ≡ false →
    slice_index (after_accesses xs c).regs r ≡ slice_index c.regs r
value_stays xs c r h = by_test (r == 0)
    (λ zero. subst (λ (n : ℕ). slice_index (after_accesses xs c).regs n ≡ slice_index c.regs n) (sym (eqb-true r 0 zero))
    (zero_stays xs c))
    (λ there. same_after_accesses xs c r there h)

pub value_seen : (b : BoardView) (r : ℕ) → waits_for b.pending r ≡ false →
    slice_index b.file.numbers r ≡ slice_index (completed_of b).regs r
unfolding completed_of
value_seen b r h = sym (value_stays b.pending (cells_in b.file b.memory) r h)

by_waiting : (pending : List Access) (regs : List ℕ) (r : ℕ) (t : Bool) → waits_for pending r ≡ t →
    register_seen pending regs r ≡ (if t then None else Some (slice_index regs r))
by_waiting pending regs r t e = ap (λ (w : Bool). if w then None else Some (slice_index regs r)) e

waits_not : (t : Bool) → (IsTrue t → ⊥) → t ≡ false
waits_not true h = absurd (h refl)
waits_not false h = refl

pub register_is : (b : BoardView) (r : ℕ) (got : Result ℕ Busy) (o : Option ℕ) → waiting_of b.file ≡ waits_for b.pending →
    o ≡ result_ok got →
    (IsErr got ↔ IsTrue (waiting_of b.file r)) →
    IfOk got (λ value. value ≡ slice_index b.file.numbers r) →
    o ≡ register_seen b.pending (completed_of b).regs r
register_is b r (Ok value) o same is busy known =
    let free : waits_for b.pending r ≡ false =
    waits_not (waits_for b.pending r) (λ yes. let no : IsErr {T = ℕ} {E = Busy} (Ok value) = busy.1 (ap (λ (set : ℕ → Bool). set r) same ∙ yes) in cc) in
    is ∙ ap Some (known ∙ value_seen b r free) ∙ sym (by_waiting b.pending (completed_of b).regs r false free)
register_is b r (Err e) o same is busy known =
    is ∙ sym (by_waiting b.pending (completed_of b).regs r true (sym (ap (λ (set : ℕ → Bool). set r) same) ∙ busy.0 refl))

-- what it shows at a moment
module _ (r : Run) (m : Moment) (b : BoardView) (at : IsAt r m b) where
  -- whether the run is over
  pub over_at : is_over_by b.limit (local_of b) ≡ is_over r m
  over_at = ap₂ is_over_by at.limit at.seen ∙ same_over r m at.within

  -- the instruction pointers
  pub nip_seen : SlotsAgree b.memory.image b.slots → b.slots.nip ≡ nip_at r.program m
  unfolding local_at completed_state
  nip_seen slots =
      nip_shown r.program b at.image slots ∙ ap (λ (l : Local). nip_of r.program l.bubble l.xip l.completed.pc) at.seen

  pub pointers_are : SlotsAgree b.memory.image b.slots → ArePointers r.program m b.slots
  unfolding local_of local_at completed_state
  pointers_are slots = record {
    xip = ap (λ (l : Local). l.xip) at.seen;
    nip = nip_seen slots;
    fip =
        fip_shown r.program b at.image slots
        ∙ ap (λ (l : Local). fip_of r.program l.bubble l.completed.pc l.completed.next) at.seen;
  }

  -- the data unit
  pub pending_seen : b.pending ≡ pending_at r.program m.retired m.done
  unfolding local_of local_at
  pending_seen = ap (λ (l : Local). l.pending) at.seen

  -- the register file
  pub value_at : (n : ℕ) → register_seen b.pending (completed_of b).regs n ≡ register_shown r.program m n
  unfolding local_of local_at completed_state
  value_at n = ap (λ (l : Local). register_seen l.pending l.completed.regs n) at.seen

  pub registers_seen : IsKept b → AreRegisters r.program m b.file
  unfolding local_of local_at completed_state
  registers_seen kept = record {
    waiting = kept.parts.waiting ∙ ap waits_for pending_seen;
    values = λ n free.
        value_seen b n (ap (λ (xs : List Access). waits_for xs n) pending_seen ∙ free)
        ∙ ap (λ (l : Local). slice_index l.completed.regs n) at.seen;
  }

  -- memory
  pub words_seen : bus_of b.memory ≡ bus_at r.program m.retired m.done
  unfolding local_of local_at
  words_seen = ap (λ (l : Local). l.bus) at.seen

  pub memory_seen : IsKept b → IsDataBus r m b.memory
  unfolding local_of local_at
  memory_seen kept = record {
    image = at.image;
    words = words_seen;
    absent = ap (λ (l : Local). l.absent) at.seen;
    ready = subst (AreReady (ready_of b.memory)) pending_seen kept.parts.ready;
  }

  -- the control registers: the carry, MXM and the status
  pub carry_seen : carry_of b.control ≡ (state r.program m.retired).carry
  unfolding local_of completed_of local_at completed_state
  carry_seen = ap (λ (l : Local). l.completed.carry) at.seen

  pub mxm_seen : mxm_of b.control ≡ (state r.program m.retired).mxm
  unfolding local_of completed_of local_at completed_state
  mxm_seen = ap (λ (l : Local). l.completed.mxm) at.seen

  ended_seen : is_some b.ended ≡ m.ended
  unfolding local_of local_at
  ended_seen = ap (λ (l : Local). is_some l.ended) at.seen ∙ ended_is r.program m

  pub status_seen : IsKept b → IsStatus r.program m b.control
  status_seen kept = record {
    status =
        sym (ap (λ (t : Bool). if t then b.control.epsr else b.control.psr) ended_seen)
        ∙ kept.status
        ∙ ap₂ status_of carry_seen mxm_seen;
    carry = carry_seen;
  }

  -- a glance
  pub glance_is : SlotsAgree b.memory.image b.slots → glance_of b ≡ glance_at r.program m
  unfolding local_of local_at
  glance_is slots = λ i. record {
    events = (at.seen i).events;
    issued = (at.seen i).retired;
    done = (at.seen i).done;
    next = nip_seen slots i;
  }
