-- What a program does in a turn: at most two accesses, each aligned, all of which the data unit gets; only a conditional
-- trap is a taken trap.
use Rattle.std.specs.Prelude.{ℕ, ℤ, Bool, true, false, not, List, [], ◌∷◌, Option, Some, None, IfSome, ◌≡◌, ◌≤◌, ◌%◌, ◌==◌, ◌&&◌, length, map, nat_lt, if◌then◌else◌}
use Rattle.std.proofs.Common.{arith, refl}
use Rattle.m88_base.specs.declared.reg.Reg.{Reg}
use Rattle.m88_isa.proofs.Alone.{by_test}
use Rattle.m88_isa.proofs.Plans.{IsLawful, at_most_two, lawful}
use Rattle.m88_isa.specs.Address.{address, after_bytes}
use Rattle.m88_isa.specs.Bus.{listed}
use Rattle.m88_isa.specs.Compute.{immediate, registers}
use Rattle.m88_isa.specs.Effect.{AreAligned, Meaning, accesses, branches, checks, computes, controls, effect, goes, indexed, inputs_of, meaning_of, raises, traps}
use Rattle.m88_isa.specs.Flow.{bit_is, class_in}
use Rattle.m88_isa.specs.Instr.{IsValid}
use Rattle.m88_isa.specs.Machine.{IsProgram, Program, Turn, carried_out, changes, fetched, four_bytes, outputs, stops, turn, turn_of_service}
use Rattle.m88_isa.specs.Memory.{Touch, access_of, recorded, size_of}
use Rattle.m88_isa.specs.Monitor.{service_of}
use Rattle.m88_isa.specs.Operands.{access_count_of, is_flow, waits_for_empty, writes_of}
use Rattle.m88_isa.specs.declared.instr.Instr.{Instr}
use Rattle.m88_isa.specs.declared.instr.Instr.TheVariants as instr
use Rattle.m88_isa.specs.declared.instr.MemOp.{MemOp}
use Rattle.m88_isa.specs.declared.monitor.Service.{Service}
use Rattle.m88_isa.specs.declared.monitor.Service.TheVariants.{End, Out, Unserved}
use Rattle.m88_isa.specs.declared.planned.Computed.{Computed}
use Rattle.m88_isa.specs.declared.planned.Computed.TheVariants.{Gives, Raises}
use Rattle.m88_isa.specs.declared.planned.Inputs.{Inputs}

-- at most two accesses, each aligned to its size
pub record FitsUnit (touches : List Touch) : Type 0 where
  pub aligned : AreAligned touches
  pub short : length touches ≤ 2

abbrev pub TurnFits : Turn → Type 0
TurnFits (changes change) = FitsUnit change.touches
TurnFits (outputs byte) = Unit {0}
TurnFits (stops stop) = Unit {0}

service_fits : (service : Service) (vector pc : ℕ) → TurnFits (turn_of_service service vector pc)
service_fits (Out byte) vector pc = tt
service_fits End vector pc = tt
service_fits Unserved vector pc = tt

carried_out_fits : (count set : ℕ) (m : Meaning) (regs : List ℕ) (pc : ℕ) → count ≤ 2 → IsLawful count set m →
    TurnFits (carried_out m regs pc)
carried_out_fits count set (raises vector) regs pc most h = tt
carried_out_fits count set (traps vector) regs pc most h = service_fits (service_of vector regs) vector pc
carried_out_fits count set (goes change) regs pc most h =
    let counted = h.0.counted in
    record { aligned = h.0.aligned; short = omega (arith, counted, most) }

fetched_fits : (word : Option (List ℕ)) (i : Option Instr) (regs : List ℕ) (carry mxm : Bool) (pc next : ℕ) → IfSome i IsValid →
    TurnFits (fetched word i regs carry mxm pc next)
fetched_fits None i regs carry mxm pc next valid = tt
fetched_fits (Some word) None regs carry mxm pc next valid = tt
fetched_fits (Some word) (Some i) regs carry mxm pc next valid =
    carried_out_fits (access_count_of i) (writes_of i) (meaning_of i regs carry mxm pc next) regs pc (at_most_two i)
    (lawful i regs carry mxm pc next valid)

pub turn_fits : (p : Program) (regs : List ℕ) (carry mxm : Bool) (pc next : ℕ) → IsProgram p → TurnFits (turn p regs carry mxm pc next)
turn_fits p regs carry mxm pc next is =
    fetched_fits (four_bytes p.byte pc) (p.instruction pc) regs carry mxm pc next (is.instructions pc)

-- what the data unit gets of at most two accesses is all of them
pub listed_recorded : (ts : List Touch) → length ts ≤ 2 → listed (recorded ts) ≡ map access_of ts
listed_recorded [] h = refl
listed_recorded (t ∷ []) h = refl
listed_recorded (t ∷ u ∷ []) h = refl
listed_recorded (t ∷ u ∷ v ∷ ts) h = absurd (omega arith)

-- only conditional traps are taken traps
abbrev pub IsTaken : Meaning → Type 0
IsTaken (raises vector) = ⊥
IsTaken (traps vector) = Unit {0}
IsTaken (goes change) = ⊥

computes_not : (d : Reg) (computed : Computed) (x : Inputs) → IsTaken (computes d computed x) → ⊥
computes_not d (Gives value carry) x h = h
computes_not d (Raises vector) x h = h

accesses_not : (op : MemOp) (d : Reg) (place : ℕ) (x : Inputs) → IsTaken (accesses op d place x) → ⊥
accesses_not op d place x = by_test x.mxm
    (λ on. rw on (λ h. h))
    (λ off. rw off (by_test (place % size_of op == 0) (λ t. rw t (λ h. h)) (λ f. rw f (λ h. h))))

indexed_not : (op : MemOp) (d : Reg) (scaled usr : Bool) (x : Inputs) → IsTaken (indexed op d scaled usr x) → ⊥
indexed_not op d scaled true x h = h
indexed_not op d scaled false x h = accesses_not op d (address x.s1 x.s2 (if scaled then size_of op else 1)) x h

branches_not : (taken delayed : Bool) (words : ℤ) (x : Inputs) → IsTaken (branches taken delayed words x) → ⊥
branches_not true delayed words x h = h
branches_not false delayed words x h = h

checks_not : (s t : ℕ) (x : Inputs) → IsTaken (checks s t x) → ⊥
checks_not s t x = by_test (nat_lt t s) (λ e. rw e (λ h. h)) (λ e. rw e (λ h. h))

controls_not : (float : Bool) → IsTaken (controls float) → ⊥
controls_not true h = h
controls_not false h = h

effect_taken : (i : Instr) (x : Inputs) → IsTaken (effect i x) → waits_for_empty i ≡ true
effect_taken (instr.Imm op d s1 imm) x h = absurd (computes_not d (immediate op x.carry x.s1 imm) x h)
effect_taken (instr.Regs op d s1 s2) x h = absurd (computes_not d (registers op x.carry x.s1 x.s2) x h)
effect_taken (instr.MemImm op d s1 imm) x h = absurd (accesses_not op d (address x.s1 imm 1) x h)
effect_taken (instr.MemReg op d s1 s2 scaled usr) x h = absurd (indexed_not op d scaled usr x h)
effect_taken (instr.Lda size d s1 s2) x h = absurd h
effect_taken (instr.BitLit op d s1 width offset) x h = absurd h
effect_taken (instr.BitReg op d s1 s2) x h = absurd h
effect_taken (instr.Find ones d s2) x h = absurd h
effect_taken (instr.Branch link delayed words) x h = absurd h
effect_taken (instr.BranchBit set delayed bit s1 words) x h = absurd (branches_not (bit_is set bit x.s1) delayed words x h)
effect_taken (instr.BranchCond delayed mask s1 words) x h = absurd (branches_not (class_in mask x.s1) delayed words x h)
effect_taken (instr.Jump link delayed s2) x h = absurd h
effect_taken (instr.TrapBit set bit s1 vector) x h = refl
effect_taken (instr.TrapCond mask s1 vector) x h = refl
effect_taken (instr.BoundImm s1 imm) x h = absurd (checks_not x.s1 imm x h)
effect_taken (instr.BoundReg s1 s2) x h = absurd (checks_not x.s1 x.s2 x h)
effect_taken instr.Rte x h = absurd h
effect_taken (instr.Ldcr d cr float) x h = absurd (controls_not float h)
effect_taken (instr.Stcr s1 cr float) x h = absurd (controls_not float h)
effect_taken (instr.Xcr d s1 cr float) x h = absurd (controls_not float h)
effect_taken (instr.Sfu unit rest) x h = absurd h

-- an instruction that means a taken trap waits for an empty data unit
pub traps_wait : (i : Instr) (regs : List ℕ) (carry mxm : Bool) (pc next vector : ℕ) →
    meaning_of i regs carry mxm pc next ≡ traps vector →
    waits_for_empty i ≡ true
traps_wait i regs carry mxm pc next vector e =
    let taken : IsTaken (meaning_of i regs carry mxm pc next) = rw e tt in
    by_test (is_flow i && not (next == after_bytes pc 4))
    (λ t. absurd (rw t at taken))
    (λ f. effect_taken i (inputs_of i regs carry mxm pc next) (rw f at taken))
