-- The transactions of a history are accesses that the data unit can make, with a DMT that is taken.
use Rattle.std.specs.Prelude.{ℕ, ℤ, zero, suc, Bool, true, false, not, ◌≡◌, ◌%◌, ◌==◌, ◌&&◌, nat_lt, List, [], ◌∷◌, Option, Some, None, All, if◌then◌else◌}
use Rattle.std.proofs.Common.{refl, sym, inl, inr, arith, subst}
use Rattle.std.proofs.lemmas.List.Elements.{All-append, All-cons, All-map, All-nil}
use Rattle.m88_base.specs.declared.reg.Reg.{Reg}
use Rattle.m88_isa.proofs.Laws.{by_test}
use Rattle.m88_isa.specs.Address.{address, after_bytes, word_address}
use Rattle.m88_isa.specs.Compute.{immediate, registers}
use Rattle.m88_isa.specs.Effect.{Meaning, accesses, branches, checks, computes, controls, effect, goes, indexed, inputs_of, meaning_of, raises, traps, traps_if}
use Rattle.m88_isa.specs.Flow.{bit_is, class_in}
use Rattle.m88_isa.specs.History.{transactions, turn_accesses}
use Rattle.m88_isa.specs.Lanes.{IsEnable, enable_of}
use Rattle.m88_isa.specs.Machine.{Program, Turn, carried_out, fetched, four_bytes, state, turn_at, turn_of_service}
use Rattle.m88_isa.specs.Memory.{IsWordAccess, Touch, access_of, first_half, load, locked, rounded, size_of, store, touches_of}
use Rattle.m88_isa.specs.Monitor.{service_of}
use Rattle.m88_isa.specs.Operands.{is_flow, register_after}
use Rattle.m88_isa.specs.Triples.{dmt_of}
use Rattle.m88_isa.specs.Vector.{first_user_vector}
use Rattle.m88_isa.specs.declared.instr.Instr.{Instr}
use Rattle.m88_isa.specs.declared.instr.Instr.TheVariants as instr
use Rattle.m88_isa.specs.declared.instr.MemOp.{MemOp}
use Rattle.m88_isa.specs.declared.instr.MemOp.TheVariants as memop
use Rattle.m88_isa.specs.declared.monitor.Service.{Service}
use Rattle.m88_isa.specs.declared.monitor.Service.TheVariants.{End, Out, Unserved}
use Rattle.m88_isa.specs.declared.planned.Access.{Access}
use Rattle.m88_isa.specs.declared.planned.Computed.{Computed}
use Rattle.m88_isa.specs.declared.planned.Computed.TheVariants.{Gives, Raises}
use Rattle.m88_isa.specs.declared.planned.Inputs.{Inputs}
use Rattle.m88_serving.proofs.Dmts.{byte_enable, half_enable, load_byte, load_half, load_word, store_byte, store_half, store_word}
use Rattle.m88_serving.specs.Faults.{is_dmt}

-- an access of a history
pub record IsCalled (a : Access) : Type 0 where
  pub made : IsWordAccess a
  pub taken : is_dmt (dmt_of a) ≡ true

abbrev Told : Touch → Type 0
Told t = IsCalled (access_of t)

enabled_half : (place : ℕ) → IsEnable (enable_of place 2)
enabled_half place = elim (half_enable place) [
  | inl e ↦ subst IsEnable (sym e) (inr (inl refl))
  | inr e ↦ subst IsEnable (sym e) (inr (inr (inl refl)))
]

enabled_byte : (place : ℕ) → IsEnable (enable_of place 1)
enabled_byte place = elim (byte_enable place) [
  | inl e ↦ subst IsEnable (sym e) (inr (inr (inr (inl refl))))
  | inr (inl e) ↦ subst IsEnable (sym e) (inr (inr (inr (inr (inl refl)))))
  | inr (inr (inl e)) ↦ subst IsEnable (sym e) (inr (inr (inr (inr (inr (inl refl))))))
  | inr (inr (inr e)) ↦ subst IsEnable (sym e) (inr (inr (inr (inr (inr (inr refl))))))
]

at_word : (place : ℕ) → word_address place % 4 ≡ 0
at_word place = omega arith

-- loads and stores of words, halves and bytes
loads_word : (first lock : Bool) (d : Reg) (place : ℕ) → not (first && lock) ≡ true → Told (record (load 4 false d place) { first_half = first; lock = lock })
loads_word first lock d place apart = record {
  made = (at_word place, inl refl, λ w. absurd cc, λ r. refl);
  taken = load_word d first lock apart;
}

stores_word : (first lock : Bool) (value place : ℕ) → not (first && lock) ≡ true → Told (record (store 4 value place) { first_half = first; lock = lock })
stores_word first lock value place apart = record {
  made = (at_word place, inl refl, λ w. (refl, refl), λ r. absurd cc);
  taken = store_word first lock apart;
}

loads_half : (signed : Bool) (d : Reg) (place : ℕ) → Told (load 2 signed d place)
loads_half signed d place = record {
  made = (at_word place, enabled_half place, λ w. absurd cc, λ r. refl);
  taken = load_half d signed place;
}

stores_half : (value place : ℕ) → Told (store 2 value place)
stores_half value place = record {
  made = (at_word place, enabled_half place, λ w. (refl, refl), λ r. absurd cc);
  taken = store_half place;
}

loads_byte : (signed lock : Bool) (d : Reg) (place : ℕ) → not (lock && signed) ≡ true → Told (record (load 1 signed d place) { lock = lock })
loads_byte signed lock d place apart = record {
  made = (at_word place, enabled_byte place, λ w. absurd cc, λ r. refl);
  taken = load_byte d signed lock place apart;
}

stores_byte : (lock : Bool) (value place : ℕ) → Told (record (store 1 value place) { lock = lock })
stores_byte lock value place = record {
  made = (at_word place, enabled_byte place, λ w. (refl, refl), λ r. absurd cc);
  taken = store_byte lock place;
}

none : All Told []
none = All-nil Told

one : (t : Touch) → Told t → All Told (t ∷ [])
one t is = All-cons Told t [] is none

two : (t u : Touch) → Told t → Told u → All Told (t ∷ u ∷ [])
two t u is are = All-cons Told t (u ∷ []) is (one u are)

-- those of each memory mnemonic
told_touches : (op : MemOp) (d : Reg) (value second place : ℕ) → All Told (touches_of op d value second place)
told_touches memop.XmemBu d value second place =
    two (locked (load 1 false d place)) (locked (store 1 value place)) (loads_byte false true d place refl) (stores_byte true value place)
told_touches memop.Xmem d value second place =
    two (locked (load 4 false d place)) (locked (store 4 value place)) (loads_word false true d place refl) (stores_word false true value place refl)
told_touches memop.LdHu d value second place = one (load 2 false d place) (loads_half false d place)
told_touches memop.LdBu d value second place = one (load 1 false d place) (loads_byte false false d place refl)
told_touches memop.LdD d value second place =
    two (first_half (load 4 false d place)) (load 4 false (register_after d) (after_bytes place 4))
    (loads_word true false d place refl) (loads_word false false (register_after d) (after_bytes place 4) refl)
told_touches memop.Ld d value second place = one (load 4 false d place) (loads_word false false d place refl)
told_touches memop.LdH d value second place = one (load 2 true d place) (loads_half true d place)
told_touches memop.LdB d value second place = one (load 1 true d place) (loads_byte true false d place refl)
told_touches memop.StD d value second place =
    two (first_half (store 4 value place)) (store 4 second (after_bytes place 4))
    (stores_word true false value place refl) (stores_word false false second (after_bytes place 4) refl)
told_touches memop.St d value second place = one (store 4 value place) (stores_word false false value place refl)
told_touches memop.StH d value second place = one (store 2 value place) (stores_half value place)
told_touches memop.StB d value second place = one (store 1 value place) (stores_byte false value place)

-- those of what an instruction means
abbrev MeansTold : Meaning → Type 0
MeansTold (raises vector) = Unit {0}
MeansTold (traps vector) = Unit {0}
MeansTold (goes change) = All Told change.touches

computes_told : (d : Reg) (computed : Computed) (x : Inputs) → MeansTold (computes d computed x)
computes_told d (Gives value carry) x = none
computes_told d (Raises vector) x = tt

accesses_told : (op : MemOp) (d : Reg) (place : ℕ) (x : Inputs) → MeansTold (accesses op d place x)
accesses_told op d place x = by_test x.mxm
    (λ on. rw on (told_touches op d x.d x.after_d (rounded op place)))
    (λ off. rw off (by_test (place % size_of op == 0)
    (λ t. rw t (told_touches op d x.d x.after_d place))
    (λ f. rw f tt)))

indexed_told : (op : MemOp) (d : Reg) (scaled usr : Bool) (x : Inputs) → MeansTold (indexed op d scaled usr x)
indexed_told op d scaled true x = tt
indexed_told op d scaled false x = accesses_told op d (address x.s1 x.s2 (if scaled then size_of op else 1)) x

branches_told : (taken delayed : Bool) (words : ℤ) (x : Inputs) → MeansTold (branches taken delayed words x)
branches_told true delayed words x = none
branches_told false delayed words x = none

traps_told : (taken : Bool) (vector : ℕ) (x : Inputs) → MeansTold (traps_if taken vector x)
traps_told true vector x = by_test (nat_lt vector first_user_vector) (λ t. rw t tt) (λ f. rw f tt)
traps_told false vector x = none

checks_told : (s t : ℕ) (x : Inputs) → MeansTold (checks s t x)
checks_told s t x = by_test (nat_lt t s) (λ e. rw e tt) (λ e. rw e none)

controls_told : (float : Bool) → MeansTold (controls float)
controls_told true = tt
controls_told false = tt

effect_told : (i : Instr) (x : Inputs) → MeansTold (effect i x)
effect_told (instr.Imm op d s1 imm) x = computes_told d (immediate op x.carry x.s1 imm) x
effect_told (instr.Regs op d s1 s2) x = computes_told d (registers op x.carry x.s1 x.s2) x
effect_told (instr.MemImm op d s1 imm) x = accesses_told op d (address x.s1 imm 1) x
effect_told (instr.MemReg op d s1 s2 scaled usr) x = indexed_told op d scaled usr x
effect_told (instr.BranchBit set delayed bit s1 words) x = branches_told (bit_is set bit x.s1) delayed words x
effect_told (instr.BranchCond delayed mask s1 words) x = branches_told (class_in mask x.s1) delayed words x
effect_told (instr.TrapBit set bit s1 vector) x = traps_told (bit_is set bit x.s1) vector x
effect_told (instr.TrapCond mask s1 vector) x = traps_told (class_in mask x.s1) vector x
effect_told (instr.BoundImm s1 imm) x = checks_told x.s1 imm x
effect_told (instr.BoundReg s1 s2) x = checks_told x.s1 x.s2 x
effect_told instr.Rte x = tt
effect_told (instr.Ldcr d cr float) x = controls_told float
effect_told (instr.Stcr s1 cr float) x = controls_told float
effect_told (instr.Xcr d s1 cr float) x = controls_told float
effect_told (instr.Sfu unit rest) x = tt
effect_told _ x = none

meaning_told : (i : Instr) (regs : List ℕ) (carry mxm : Bool) (pc next : ℕ) → MeansTold (meaning_of i regs carry mxm pc next)
meaning_told i regs carry mxm pc next = by_test (is_flow i && not (next == after_bytes pc 4))
    (λ t. rw t tt)
    (λ f. rw f (effect_told i (inputs_of i regs carry mxm pc next)))

-- those of a turn, and of a history
abbrev TurnTold : Turn → Type 0
TurnTold turn = All IsCalled (turn_accesses turn)

idle : All IsCalled []
idle = All-nil IsCalled

service_told : (service : Service) (vector pc : ℕ) → TurnTold (turn_of_service service vector pc)
service_told (Out byte) vector pc = idle
service_told _ vector pc = idle

carried_told : (m : Meaning) (regs : List ℕ) (pc : ℕ) → MeansTold m → TurnTold (carried_out m regs pc)
carried_told (raises vector) regs pc told = idle
carried_told (traps vector) regs pc told = service_told (service_of vector regs) vector pc
carried_told (goes change) regs pc told = All-map IsCalled access_of change.touches told

fetched_told : (word : Option (List ℕ)) (i : Option Instr) (regs : List ℕ) (carry mxm : Bool) (pc next : ℕ)
    → TurnTold (fetched word i regs carry mxm pc next)
fetched_told None i regs carry mxm pc next = idle
fetched_told (Some word) None regs carry mxm pc next = idle
fetched_told (Some word) (Some i) regs carry mxm pc next =
    carried_told (meaning_of i regs carry mxm pc next) regs pc (meaning_told i regs carry mxm pc next)

pub transactions_told : (p : Program) (n : ℕ) → All IsCalled (transactions p n)
unfolding transactions
transactions_told p zero = idle
transactions_told p (suc n) =
    All-append IsCalled (transactions p n) (turn_accesses (turn_at p (state p n))) (transactions_told p n)
    (fetched_told (four_bytes p.byte (state p n).pc) (p.instruction (state p n).pc) (state p n).regs (state p n).carry (state p n).mxm (state p n).pc (state p n).next)
