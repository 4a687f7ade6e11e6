-- The choices that the paths of an event come to.
use Rattle.std.specs.Prelude.{ℕ, Bool, true, false, List, [], ◌∷◌, Some, ◌≡◌, ◌<◌, length, slice_get, if◌then◌else◌}
use Rattle.std.proofs.Common.{arith, refl, sym, ap, ◌∙◌, subst}
use Rattle.m88_base.specs.Pages.{page_number}
use Rattle.m88_base.specs.declared.slot.Slot.{Slot}
use Rattle.m88_event.specs.Choice.{Choice, answer_choice, faults, finishes, holds, replies, turn_choice}
use Rattle.m88_event.specs.declared.happened.Happened.{Happened}
use Rattle.m88_event.specs.declared.record.Record.{Record}
use Rattle.m88_isa.specs.Bus.{waits_for}
use Rattle.m88_isa.specs.Held.{is_pending, sync}
use Rattle.m88_isa.specs.Machine.{Stop, trapped, turn_of_service}
use Rattle.m88_isa.specs.Monitor.{service_of}
use Rattle.m88_isa.specs.declared.monitor.Service.{Service}
use Rattle.m88_isa.specs.declared.planned.Access.{Access}
use Rattle.m88_iunit.specs.Pointers.{Pointers}
use Rattle.m88_scoreboard.specs.Registers.{Registers, waiting_of}
use Rattle.m88_mem.specs.DataBus.{MemoryView}
use Rattle.m88_board.specs.Board.{BoardView, pc_of}
use Rattle.m88_board.specs.Kept.{PartsAgree}
use Rattle.m88_board.specs.Inside.Events.{Did}
use Rattle.m88_board.specs.Inside.Turns.{stopping}

-- whether something is pending
pub none_pending : (xs : List Access) → is_pending xs ≡ false → xs ≡ []
none_pending [] h = refl
none_pending (x ∷ xs) h = absurd cc

pub some_count : (xs : List Access) → is_pending xs ≡ true → 0 < length xs
some_count [] h = absurd cc
some_count (x ∷ xs) h = omega arith

-- what raises with nothing pending
pub stopping_ends : (stop : Stop) (xs : List Access) → xs ≡ [] → stopping stop xs ≡ finishes stop
stopping_ends stop xs h = ap (λ (ys : List Access). stopping stop ys) h

-- and with something pending
pub stopping_waits : (stop : Stop) (xs : List Access) → is_pending xs ≡ true → stopping stop xs ≡ holds sync
stopping_waits stop xs h = ap (λ (t : Bool). if t then holds sync else finishes stop) h

-- something is pending where the oldest meets its fault
pub faults_some : (xs : List Access) (absent : ℕ → Bool) → answer_choice xs absent ≡ faults → 0 < length xs
faults_some [] absent h = absurd cc
faults_some (x ∷ xs) absent h = omega arith

-- the oldest is answered by its page
pub answer_is : (xs : List Access) (x : Access) (absent : ℕ → Bool) (t : Bool) → Some x ≡ slice_get xs 0 →
    absent (page_number x.addr) ≡ t → answer_choice xs absent ≡ (if t then faults else replies)
answer_is [] x absent t h e = absurd cc
answer_is (y ∷ ys) x absent t h e =
    let same : y ≡ x = cc in
    ap (λ (z : Access). if absent (page_number z.addr) then faults else replies) same
    ∙ ap (λ (b : Bool). if b then faults else replies) e

-- what is done by a choice that is another's
pub did_by : (a b : Choice) (fault : Record) (old : BoardView) (h : Happened) (new : BoardView) → a ≡ b →
    Did b fault old h new → Did a fault old h new
did_by a b fault old h new e did = subst (λ choice. Did choice fault old h new) (sym e) did

-- no register waits where nothing is pending
pub nothing_waits : (xs : List Access) (file : Registers) (memory : MemoryView) (r : ℕ) → PartsAgree xs file memory → xs ≡ [] →
    waiting_of file r ≡ false
unfolding waits_for
nothing_waits xs file memory r agree none = ap (λ set. set r) (agree.waiting ∙ ap waits_for none)

-- the choice of a taken trap by what the monitor does
pub trap_choice : (vector pc : ℕ) (numbers seen : List ℕ) (result s : Service) → result ≡ service_of vector numbers →
    numbers ≡ seen →
    result ≡ s →
    turn_choice (trapped vector seen pc) ≡ turn_choice (turn_of_service s vector pc)
trap_choice vector pc numbers seen result s is same found =
    ap (λ (u : Service). turn_choice (turn_of_service u vector pc)) (ap (service_of vector) (sym same) ∙ sym is ∙ found)

-- the next instruction, where it isn't passed over, is at NIP
pub at_pc : (slots seen : Pointers) (slot : Slot) → slot ≡ slots.nip → slots ≡ seen → seen.nip.v ≡ true → slot.addr ≡ pc_of seen
at_pc slots seen slot is same valid =
    ap (λ (s : Slot). s.addr) is
    ∙ ap (λ (s : Pointers). s.nip.addr) same
    ∙ sym (ap (λ (v : Bool). if v then seen.nip.addr else seen.fip.addr) valid)
