-- What the next instruction comes to in its turn, where no register that it uses or writes waits.
use Rattle.std.specs.Prelude.{ℕ, Bool, true, false, List, [], ◌∷◌, ◌++◌, Option, Some, None, ◌≡◌, ◌<◌, ◌≤◌, ◌+◌, ◌==◌, ◌&&◌, ◌||◌, is_some, length, slice_get, slice_index, if◌then◌else◌}
use Rattle.std.proofs.Common.{arith, refl, sym, ap, ◌∙◌, subst}
use Rattle.std.proofs.lemmas.Bool.Decides.{nat_tests}
use Rattle.m88_base.proofs.Laws.{same_reg}
use Rattle.m88_base.specs.Reg.{number_of, reg_of}
use Rattle.m88_base.specs.declared.reg.Reg.{Reg}
use Rattle.m88_ctrl.specs.ControlRegisters.{carry_of, mxm_of}
use Rattle.m88_event.specs.Choice.{Choice, holds, issues, next_choice, turn_choice, why_of}
use Rattle.m88_event.specs.declared.happened.Happened.TheVariants as happened
use Rattle.m88_event.specs.declared.happened.Why.TheVariants.{Busy}
use Rattle.m88_event.specs.declared.record.Record.{Record}
use Rattle.m88_isa.proofs.Laws.{at_most_two, by_test, issue_stays_apart, listed_recorded, meaning_seen, touches_counted, traps_wait}
use Rattle.m88_isa.specs.Bus.{LoadApart, after_accesses, listed}
use Rattle.m88_isa.specs.Effect.{Change, Meaning, goes, meaning_of, plan_for, plan_of_outline, raises, recorded_change, traps}
use Rattle.m88_isa.specs.Held.{Hold, busy, busy_register, exceeds, full, held, is_pending, most_pending, needs_empty, sync}
use Rattle.m88_isa.specs.History.{change_accesses}
use Rattle.m88_isa.specs.Instr.{IsValid}
use Rattle.m88_isa.specs.Machine.{Stop, Turn, by_vector, carried_out, changes, stops, trapped}
use Rattle.m88_isa.specs.Memory.{AreWordAccesses}
use Rattle.m88_isa.specs.Monitor.{exit_service, monitor_trap, put_service, service_register}
use Rattle.m88_isa.specs.Operands.{access_count_of, waits_for_empty}
use Rattle.m88_isa.specs.declared.instr.Instr.{Instr}
use Rattle.m88_isa.specs.declared.planned.Access.{Access}
use Rattle.m88_isa.specs.declared.planned.Effect.{Effect}
use Rattle.m88_isa.specs.declared.planned.Plan.TheVariants.{Go, Raise, Trap}
use Rattle.m88_isa.specs.declared.planned.Outline.{Outline}
use Rattle.m88_board.specs.Board.{BoardView, cells_in, completed_of, pc_of, next_of}
use Rattle.m88_board.specs.Kept.{IsKept}
use Rattle.m88_board.proofs.Choosing.{did_by}
use Rattle.m88_board.specs.Inside.Events.{Did}
use Rattle.m88_board.specs.Inside.Turns.{choice_for, meaning_at, planned_by, stopping}

-- something is pending where there is an oldest
pub pending_shown : (xs : List Access) (o : Option Access) → o ≡ slice_get xs 0 → is_some o ≡ is_pending xs
pending_shown [] o e = ap is_some e
pending_shown (x ∷ xs) o e = ap is_some e

-- the room in the data unit
pub room_of : (inside b : BoardView) (room : ℕ) → inside ≡ b → room + length inside.pending ≡ most_pending →
    room + length b.pending ≡ most_pending
room_of inside b room same h = subst (λ (x : BoardView). room + length x.pending ≡ most_pending) same h

-- what the next instruction comes to where it has this meaning
abbrev choice_meant : Instr → BoardView → Meaning → Choice
choice_meant i b m =
    next_choice (held (Some i) (carried_out m (completed_of b).regs (completed_of b).pc) b.pending)
    (carried_out m (completed_of b).regs (completed_of b).pc)

-- its choice is that of its meaning
pub by_meaning : (i : Instr) (b : BoardView) (m : Meaning) → meaning_at i (completed_of b) ≡ m →
    choice_for (Some i) b ≡ choice_meant i b m
by_meaning i b m means = ap (choice_meant i b) means

-- NIP is the next instruction where it is to be carried out
pc_valid : (b : BoardView) → b.slots.nip.v ≡ true → b.slots.nip.addr ≡ pc_of b.slots
pc_valid b valid = sym (ap (λ (v : Bool). if v then b.slots.nip.addr else b.slots.fip.addr) valid)

-- and FIP the one that follows it
next_valid : (b : BoardView) → b.slots.nip.v ≡ true → b.slots.fip.addr ≡ next_of b.slots
next_valid b valid = rw valid refl

-- by what the parts show, an instruction means what it means at the state that the pending transactions lead to
pub meant : (i : Instr) (inside b : BoardView) (shown : List ℕ) (carry mxm : Bool) (pc next : ℕ) →
    inside ≡ b →
    IsKept inside →
    b.slots.nip.v ≡ true →
    busy_register (Some i) b.pending ≡ None →
    shown ≡ inside.file.numbers →
    carry ≡ carry_of inside.control →
    mxm ≡ mxm_of inside.control →
    pc ≡ inside.slots.nip.addr →
    next ≡ inside.slots.fip.addr →
    meaning_of i shown carry mxm pc next ≡ meaning_at i (completed_of b)
unfolding completed_of
meant i inside b shown carry mxm pc next same kept valid free numbers carries modes here behind =
    let numbers : shown ≡ b.file.numbers = numbers ∙ ap (λ (x : BoardView). x.file.numbers) same in
    let carries : carry ≡ carry_of b.control = carries ∙ ap (λ (x : BoardView). carry_of x.control) same in
    let modes : mxm ≡ mxm_of b.control = modes ∙ ap (λ (x : BoardView). mxm_of x.control) same in
    let here : pc ≡ pc_of b.slots =
    here ∙ ap (λ (x : BoardView). x.slots.nip.addr) same ∙ pc_valid b valid in
    let behind : next ≡ next_of b.slots =
    behind ∙ ap (λ (x : BoardView). x.slots.fip.addr) same ∙ next_valid b valid in
    let regs : List ℕ = (after_accesses b.pending (cells_in b.file b.memory)).regs in
    meaning_seen i b.pending (cells_in b.file b.memory) shown carry mxm pc next free
    (λ r low ready. ap (λ (xs : List ℕ). slice_index xs r) numbers)
    ∙ ap (λ (k : Bool). meaning_of i regs k mxm pc next) carries
    ∙ ap (λ (k : Bool). meaning_of i regs (carry_of b.control) k pc next) modes
    ∙ ap (λ (k : ℕ). meaning_of i regs (carry_of b.control) (mxm_of b.control) k next) here
    ∙ ap (meaning_of i regs (carry_of b.control) (mxm_of b.control) (pc_of b.slots)) behind

-- by what the parts show, an outline stands for the same plan as by the board
pub shown_by : (outline : Outline) (inside b : BoardView) (shown : List ℕ) (carry : Bool) (next : ℕ) →
    inside ≡ b →
    shown ≡ inside.file.numbers →
    carry ≡ carry_of inside.control →
    next ≡ inside.slots.fip.addr →
    planned_by outline b ≡ plan_of_outline outline shown carry next
shown_by outline inside b shown carry next same numbers carries behind =
    let numbers : shown ≡ b.file.numbers = numbers ∙ ap (λ (x : BoardView). x.file.numbers) same in
    let carries : carry ≡ carry_of b.control = carries ∙ ap (λ (x : BoardView). carry_of x.control) same in
    let behind : next ≡ b.slots.fip.addr = behind ∙ ap (λ (x : BoardView). x.slots.fip.addr) same in
    sym (ap (λ (xs : List ℕ). plan_of_outline outline xs carry next) numbers
    ∙ ap (λ (k : Bool). plan_of_outline outline b.file.numbers k next) carries
    ∙ ap (λ (a : ℕ). plan_of_outline outline b.file.numbers (carry_of b.control) a) behind)

-- an instruction with a plan that raises means that
pub raise_is : (m : Meaning) (vector : ℕ) → Raise vector ≡ plan_for m → m ≡ raises vector
raise_is (raises v) vector h = cc
raise_is _ vector h = absurd cc

-- one with a plan that traps means that
pub trap_is : (m : Meaning) (vector : ℕ) → Trap vector ≡ plan_for m → m ≡ traps vector
trap_is (traps v) vector h = cc
trap_is _ vector h = absurd cc

-- a meaning goes on with an effect
pub record GoesOn (m : Meaning) (effect : Effect) : Type 0 where
  pub change : Change
  pub means : m ≡ goes change
  pub same : effect ≡ recorded_change change

-- and one with a plan that goes on does
pub go_is : (m : Meaning) (effect : Effect) → Go effect ≡ plan_for m → GoesOn m effect
go_is (goes change) effect h = record { change = change; means = refl; same = cc }
go_is _ effect h = absurd cc

-- what ends the program waits for an empty data unit
stopped : (i : Instr) (stop : Stop) (pending : List Access) → busy_register (Some i) pending ≡ None →
    next_choice (held (Some i) (stops stop) pending) (stops stop) ≡ stopping stop pending
stopped i stop [] free = rw free refl
stopped i stop (a ∷ pending) free = rw free (by_test (waits_for_empty i) (λ t. rw t refl) (λ f. rw f refl))

-- an instruction that raises
pub raising : (i : Instr) (b : BoardView) (vector : ℕ) → busy_register (Some i) b.pending ≡ None →
    meaning_at i (completed_of b) ≡ raises vector →
    choice_for (Some i) b ≡ stopping (by_vector vector (pc_of b.slots)) b.pending
unfolding completed_of
raising i b vector free means =
    by_meaning i b (raises vector) means ∙ stopped i (by_vector vector (pc_of b.slots)) b.pending free

-- what traps makes no access
trap_room : (vector : ℕ) (regs : List ℕ) (pc count : ℕ) → exceeds (trapped vector regs pc) count ≡ false
trap_room vector regs pc count =
    by_test (vector == monitor_trap && slice_index regs service_register == put_service)
    (λ put. rw put refl)
    (λ other. rw other (by_test (vector == monitor_trap && slice_index regs service_register == exit_service)
    (λ exit. rw exit refl)
    (λ none. rw none refl)))

-- a turn without room for its accesses
held_full : (i : Instr) (turn : Turn) (pending : List Access) → busy_register (Some i) pending ≡ None →
    exceeds turn (length pending) ≡ true →
    next_choice (held (Some i) turn pending) turn ≡ holds full
held_full i turn pending free exceeded = rw (free, exceeded) refl

-- both of two tests hold
both_of : (a b : Bool) → (a && b) ≡ true → (a ≡ true) × (b ≡ true)
both_of true true h = (refl, refl)
both_of true false h = absurd cc
both_of false b h = absurd cc

-- a turn with room, which waits for an empty data unit
held_sync : (i : Instr) (turn : Turn) (pending : List Access) → busy_register (Some i) pending ≡ None →
    exceeds turn (length pending) ≡ false →
    (is_pending pending && waits_for_empty i) ≡ true →
    next_choice (held (Some i) turn pending) turn ≡ holds sync
held_sync i turn pending free room waits =
    let both = both_of (is_pending pending) (waits_for_empty i) waits in
    rw (free, room, both.1, both.0) refl

-- a turn that nothing holds
unheld : (i : Instr) (turn : Turn) (pending : List Access) → busy_register (Some i) pending ≡ None →
    exceeds turn (length pending) ≡ false →
    (is_pending pending && needs_empty (Some i) turn) ≡ false →
    next_choice (held (Some i) turn pending) turn ≡ turn_choice turn
unheld i turn pending free room goes_on = rw (free, room, goes_on) refl

some_waits : (pending trap : Bool) → pending ≡ true → trap ≡ true → (pending && trap) ≡ true
some_waits pending trap some waits = rw (some, waits) refl

-- a taken trap waits for an empty data unit
pub trap_held : (i : Instr) (b : BoardView) (vector : ℕ) → busy_register (Some i) b.pending ≡ None →
    meaning_at i (completed_of b) ≡ traps vector →
    is_pending b.pending ≡ true →
    choice_for (Some i) b ≡ holds sync
trap_held i b vector free means some =
    let c = completed_of b in
    by_meaning i b (traps vector) means
    ∙ held_sync i (trapped vector c.regs c.pc) b.pending free (trap_room vector c.regs c.pc (length b.pending))
    (some_waits (is_pending b.pending) (waits_for_empty i) some (traps_wait i c.regs c.carry c.mxm c.pc c.next vector means))

-- and then has its turn
pub trap_turn : (i : Instr) (b : BoardView) (vector : ℕ) → busy_register (Some i) b.pending ≡ None →
    meaning_at i (completed_of b) ≡ traps vector →
    b.pending ≡ [] →
    choice_for (Some i) b
    ≡ turn_choice (trapped vector b.file.numbers (pc_of b.slots))
unfolding completed_of after_accesses
trap_turn i b vector free means none =
    let c = completed_of b in
    by_meaning i b (traps vector) means
    ∙ unheld i (trapped vector c.regs c.pc) b.pending free (trap_room vector c.regs c.pc (length b.pending))
    (ap (λ (xs : List Access). is_pending xs && needs_empty (Some i) (trapped vector c.regs c.pc)) none)
    ∙ ap (λ (xs : List Access). turn_choice
    (trapped vector (after_accesses xs (cells_in b.file b.memory)).regs (pc_of b.slots))) none

-- an instruction that goes on has an effect, and its accesses are counted
pub record IsGoing (i : Instr) (b : BoardView) (effect : Effect) : Type 0 where
  pub on : GoesOn (meaning_at i (completed_of b)) effect
  pub valid : IsValid i
  pub made : AreWordAccesses (access_count_of i) effect.accesses
  pub free : busy_register (Some i) b.pending ≡ None

-- as its plan says
pub is_going : (i : Instr) (b : BoardView) (effect : Effect) → Go effect ≡ plan_for (meaning_at i (completed_of b)) →
    IsValid i →
    AreWordAccesses (access_count_of i) effect.accesses →
    busy_register (Some i) b.pending ≡ None →
    IsGoing i b effect
is_going i b effect is valid made free =
    record { on = go_is (meaning_at i (completed_of b)) effect is; valid = valid; made = made; free = free }

-- its effect has as many accesses as its change
count_is : (i : Instr) (b : BoardView) (effect : Effect) (going : IsGoing i b effect) →
    length going.on.change.touches ≡ effect.accesses.count
count_is i b effect going =
    let c = completed_of b in
    touches_counted i c.regs c.carry c.mxm c.pc c.next going.on.change going.valid going.on.means ∙ sym going.made.0

-- which are at most two
pub at_most : (i : Instr) (b : BoardView) (effect : Effect) (going : IsGoing i b effect) →
    length going.on.change.touches ≤ 2
at_most i b effect going =
    let count = count_is i b effect going in
    let most = at_most_two i in
    let counted = going.made.0 in
    omega (arith, count, most, counted)

-- no two of them and of the pending ones load one register
pub stays_apart : (i : Instr) (b : BoardView) (effect : Effect) → IsGoing i b effect → LoadApart b.pending →
    LoadApart (b.pending ++ listed effect.accesses)
stays_apart i b effect going apart =
    let c = completed_of b in
    let change = going.on.change in
    let few : length change.touches ≤ 2 = at_most i b effect going in
    let seen : listed effect.accesses ≡ change_accesses change =
    ap (λ (e : Effect). listed e.accesses) going.on.same ∙ listed_recorded change.touches few in
    subst (λ (xs : List Access). LoadApart (b.pending ++ xs)) (sym seen)
    (issue_stays_apart i b.pending c.regs c.carry c.mxm c.pc c.next change going.valid going.on.means going.free apart)

-- it is held where there is no room for them
pub go_full : (i : Instr) (b : BoardView) (effect : Effect) → IsGoing i b effect →
    most_pending < length b.pending + effect.accesses.count →
    choice_for (Some i) b ≡ holds full
go_full i b effect going many =
    let count = count_is i b effect going in
    by_meaning i b (goes going.on.change) going.on.means
    ∙ held_full i (changes going.on.change) b.pending going.free (grind (arith, nat_tests))

-- and while it waits for an empty data unit
pub go_sync : (i : Instr) (b : BoardView) (effect : Effect) → IsGoing i b effect →
    length b.pending + effect.accesses.count ≤ most_pending →
    (is_pending b.pending && waits_for_empty i) ≡ true →
    choice_for (Some i) b ≡ holds sync
go_sync i b effect going few waits =
    let count = count_is i b effect going in
    by_meaning i b (goes going.on.change) going.on.means
    ∙ held_sync i (changes going.on.change) b.pending going.free (grind (arith, nat_tests)) waits

-- nothing is pending
pub nothing_pending : (pending : List Access) → is_pending pending ≡ false → pending ≡ []
nothing_pending [] h = refl
nothing_pending (a ∷ pending) h = absurd cc

-- it waits where something is pending, if it waits at all
pub waits_by : (pending waits asked : Bool) → asked ≡ waits → asked ≡ true → pending ≡ (pending && waits)
waits_by true waits asked is h = sym (sym is ∙ h)
waits_by false waits asked is h = refl

pub waits_not : (pending waits asked : Bool) → asked ≡ waits → asked ≡ false → false ≡ (pending && waits)
waits_not true waits asked is h = sym (sym is ∙ h)
waits_not false waits asked is h = refl

-- an instruction that goes on doesn't end the program
no_stop : (pending trap : Bool) → (pending && trap) ≡ false → (pending && (trap || false)) ≡ false
no_stop true true h = h
no_stop true false h = refl
no_stop false trap h = refl

-- else it is issued
pub go_issued : (i : Instr) (b : BoardView) (effect : Effect) (going : IsGoing i b effect) →
    length b.pending + effect.accesses.count ≤ most_pending →
    (is_pending b.pending && waits_for_empty i) ≡ false →
    choice_for (Some i) b ≡ issues going.on.change
go_issued i b effect going few goes_on =
    let count = count_is i b effect going in
    by_meaning i b (goes going.on.change) going.on.means
    ∙ unheld i (changes going.on.change) b.pending going.free (grind (arith, nat_tests))
    (no_stop (is_pending b.pending) (waits_for_empty i) goes_on)

-- a board on which the next instruction is held stays as it is
pub held_still : (choice : Choice) (why : Hold) (fault : Record) (b : BoardView) → choice ≡ holds why →
    Did choice fault b (happened.Stalled (why_of why)) b
held_still choice why fault b is =
    did_by choice (holds why) fault b (happened.Stalled (why_of why)) b is
    (record { says = refl; does = record { moved = refl; same = record { limit = refl; mxm = refl; named = refl; image = refl; begun = refl } } })

-- the least register that it uses or writes and that waits holds it
pub busy_first : (i : Instr) (b : BoardView) (r : Reg) (fault : Record) →
    Some (number_of r) ≡ busy_register (Some i) b.pending →
    Did (choice_for (Some i) b) fault b (happened.Stalled (Busy r)) b
busy_first i b r fault h =
    let same : reg_of (number_of r) ≡ r =
    same_reg _ _ (let low : number_of r < 32 = r.in_range in omega (arith, low)) in
    let choice : choice_for (Some i) b ≡ holds (busy (number_of r)) = rw (sym h) refl in
    subst (λ (s : Reg). Did (choice_for (Some i) b) fault b (happened.Stalled (Busy s)) b) same
    (held_still (choice_for (Some i) b) (busy (number_of r)) fault b choice)
