-- The parts agree on the pending transactions as these are issued and answered, and the state that the pending ones
-- lead to stays as one is answered.
use Rattle.std.specs.Prelude.{ℕ, Bool, true, false, List, [], ◌∷◌, Some, All, ◌≡◌, drop, take, slice_get, if◌then◌else◌}
use Rattle.std.proofs.Common.{arith, refl, sym, ap, ◌∙◌, subst}
use Rattle.std.proofs.lemmas.List.Elements.{All-head, All-tail}
use Rattle.m88_base.specs.Reg.{number_of, with_register}
use Rattle.m88_base.specs.RegisterSet.{with_member}
use Rattle.m88_isa.proofs.Laws.{loaded_first, r0_waits_not, stored_first}
use Rattle.m88_isa.specs.Bus.{after_accesses, bus_after_all, loaded, stored}
use Rattle.m88_isa.specs.Memory.{IsWordAccess}
use Rattle.m88_isa.specs.declared.planned.Access.{Access}
use Rattle.m88_mem.specs.DataBus.{MemoryView, absent_of, bus_of, ready_of}
use Rattle.m88_scoreboard.specs.Registers.{Registers, waiting_of}
use Rattle.m88_board.specs.Board.{cells_in}
use Rattle.m88_board.specs.Inside.Accesses.{AnswersOldest}
use Rattle.m88_board.specs.Kept.{AreReady, HasReadyPage, PartsAgree}

-- the oldest and the rest
pub oldest_first : (xs : List Access) (x : Access) → slice_get xs 0 ≡ Some x → xs ≡ x ∷ drop 1 xs
oldest_first [] x h = absurd cc
oldest_first (y ∷ ys) x h = let e : y ≡ x = cc in ap (λ z. z ∷ ys) e

-- what is known of the oldest
pub oldest_made : (xs : List Access) (x : Access) (file : Registers) (memory : MemoryView) →
    slice_get xs 0 ≡ Some x → PartsAgree xs file memory → IsWordAccess x
oldest_made xs x file memory h agree =
    let whole : All IsWordAccess (x ∷ drop 1 xs) = subst (λ ys. All IsWordAccess ys) (oldest_first xs x h) agree.made in
    All-head IsWordAccess x (drop 1 xs) whole

pub oldest_ready : (xs : List Access) (x : Access) (file : Registers) (memory : MemoryView) →
    slice_get xs 0 ≡ Some x → PartsAgree xs file memory → HasReadyPage (ready_of memory) x
oldest_ready xs x file memory h agree =
    let whole : AreReady (ready_of memory) (x ∷ drop 1 xs) =
    subst (λ ys. AreReady (ready_of memory) ys) (oldest_first xs x h) agree.ready in
    All-head (HasReadyPage (ready_of memory)) x (drop 1 xs) whole

-- r0 doesn't wait
pub zero_waits_not : (xs : List Access) (file : Registers) (memory : MemoryView) → PartsAgree xs file memory →
    waiting_of file 0 ≡ false
zero_waits_not xs file memory agree = ap (λ set. set 0) agree.waiting ∙ r0_waits_not xs

-- what an answer keeps
record Answered (old : List Access) (file : Registers) (memory : MemoryView) (file' : Registers) (memory' : MemoryView)
    : Type 0 where
  pub agree : PartsAgree (drop 1 old) file' memory'
  pub cells : after_accesses (drop 1 old) (cells_in file' memory') ≡ after_accesses old (cells_in file memory)
  pub bus : bus_of memory' ≡ bus_after_all (take 1 old) (bus_of memory)

store_first : (x : Access) (xs : List Access) (file : Registers) (memory memory' : MemoryView) →
    PartsAgree (x ∷ xs) file memory →
    x.write ≡ true →
    bus_of memory' ≡ stored x (bus_of memory) →
    ready_of memory' ≡ ready_of memory →
    Answered (x ∷ xs) file memory file memory'
unfolding after_accesses bus_after_all
store_first x xs file memory memory' agree write bus ready = record {
  agree = record {
    few = let few = agree.few in omega (arith, few);
    made = All-tail IsWordAccess x xs agree.made;
    apart = agree.apart.1;
    waiting = agree.waiting ∙ stored_first x xs write;
    ready = subst (λ set. AreReady set xs) (sym ready) (All-tail (HasReadyPage (ready_of memory)) x xs agree.ready);
  };
  cells = ap (λ (words : ℕ → ℕ). after_accesses xs (record { regs = file.numbers; bus = words })) bus ∙ (rw write refl);
  bus = bus ∙ ap (λ (w : Bool). if w then stored x (bus_of memory) else bus_of memory) (sym write);
}

load_first : (x : Access) (xs : List Access) (file file' : Registers) (memory : MemoryView) →
    PartsAgree (x ∷ xs) file memory →
    x.write ≡ false →
    file'.numbers ≡ with_register x.reg (loaded x (bus_of memory)) file.numbers →
    waiting_of file' ≡ with_member (number_of x.reg) false (waiting_of file) →
    Answered (x ∷ xs) file memory file' memory
unfolding after_accesses bus_after_all
load_first x xs file file' memory agree read numbers waiting = record {
  agree = record {
    few = let few = agree.few in omega (arith, few);
    made = All-tail IsWordAccess x xs agree.made;
    apart = agree.apart.1;
    waiting = waiting ∙ ap (with_member (number_of x.reg) false) agree.waiting ∙ loaded_first x xs read agree.apart;
    ready = All-tail (HasReadyPage (ready_of memory)) x xs agree.ready;
  };
  cells = ap (λ (regs : List ℕ). after_accesses xs (record { regs = regs; bus = bus_of memory })) numbers ∙ (rw read refl);
  bus = ap (λ (w : Bool). if w then stored x (bus_of memory) else bus_of memory) (sym read);
}

-- by the list of those that are still pending
answers_oldest : (old new : List Access) (file : Registers) (memory : MemoryView) (file' : Registers) (memory' : MemoryView) →
    Answered old file memory file' memory' →
    new ≡ drop 1 old →
    absent_of memory' ≡ absent_of memory →
    memory'.image ≡ memory.image →
    AnswersOldest old file memory new file' memory'
answers_oldest old new file memory file' memory' done left absent image = record {
  pending = left;
  agree = subst (λ (xs : List Access). PartsAgree xs file' memory') (sym left) done.agree;
  cells = ap (λ (xs : List Access). after_accesses xs (cells_in file' memory')) left ∙ done.cells;
  bus = done.bus;
  absent = absent;
  image = image;
}

pub store_answered : (old new : List Access) (x : Access) (file : Registers) (memory memory' : MemoryView) →
    slice_get old 0 ≡ Some x →
    PartsAgree old file memory →
    x.write ≡ true →
    bus_of memory' ≡ stored x (bus_of memory) →
    ready_of memory' ≡ ready_of memory →
    new ≡ drop 1 old →
    absent_of memory' ≡ absent_of memory →
    memory'.image ≡ memory.image →
    AnswersOldest old file memory new file memory'
store_answered [] new x file memory memory' h agree write bus ready left absent image = absurd cc
store_answered (y ∷ ys) new x file memory memory' h agree write bus ready left absent image =
    let e : x ≡ y = cc in
    answers_oldest (y ∷ ys) new file memory file memory'
    (store_first y ys file memory memory' agree (subst (λ (z : Access). z.write ≡ true) e write)
    (subst (λ (z : Access). bus_of memory' ≡ stored z (bus_of memory)) e bus) ready)
    left absent image

pub load_answered : (old new : List Access) (x : Access) (file file' : Registers) (memory : MemoryView) →
    slice_get old 0 ≡ Some x →
    PartsAgree old file memory →
    x.write ≡ false →
    file'.numbers ≡ with_register x.reg (loaded x (bus_of memory)) file.numbers →
    waiting_of file' ≡ with_member (number_of x.reg) false (waiting_of file) →
    new ≡ drop 1 old →
    AnswersOldest old file memory new file' memory
load_answered [] new x file file' memory h agree read numbers waiting left = absurd cc
load_answered (y ∷ ys) new x file file' memory h agree read numbers waiting left =
    let e : x ≡ y = cc in
    answers_oldest (y ∷ ys) new file memory file' memory
    (load_first y ys file file' memory agree (subst (λ (z : Access). z.write ≡ false) e read)
    (subst (λ (z : Access). file'.numbers ≡ with_register z.reg (loaded z (bus_of memory)) file.numbers) e numbers)
    (subst (λ (z : Access). waiting_of file' ≡ with_member (number_of z.reg) false (waiting_of file)) e waiting))
    left refl refl
