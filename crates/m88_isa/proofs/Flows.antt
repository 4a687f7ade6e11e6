-- Where an instruction goes on: from words to words.
use Rattle.std.specs.Prelude.{ℕ, ℤ, Bool, true, false, List, ◌≡◌, ◌%◌, ◌==◌, nat_lt, if◌then◌else◌}
use Rattle.std.proofs.Common.{arith, refl}
use Rattle.std.proofs.lemmas.Bool.{false≢true}
use Rattle.m88_base.specs.declared.reg.Reg.{Reg}
use Rattle.m88_isa.proofs.Alone.{by_test}
use Rattle.m88_isa.specs.Address.{address, after_bytes, word_address}
use Rattle.m88_isa.specs.Compute.{immediate, registers}
use Rattle.m88_isa.specs.Effect.{Meaning, accesses, branches, checks, computes, controls, effect, flows, goes, indexed, inputs_of, plan_for, raises, traps, traps_if, FlowsToWords}
use Rattle.m88_isa.specs.Flow.{FlowFits, bit_is, class_in, words_away}
use Rattle.m88_isa.specs.Memory.{size_of}
use Rattle.m88_isa.specs.Vector.{first_user_vector}
use Rattle.m88_isa.specs.declared.instr.Instr.{Instr}
use Rattle.m88_isa.specs.declared.instr.Instr.TheVariants as instr
use Rattle.m88_isa.specs.declared.instr.MemOp.{MemOp}
use Rattle.m88_isa.specs.declared.planned.Computed.{Computed}
use Rattle.m88_isa.specs.declared.planned.Computed.TheVariants.{Gives, Raises}
use Rattle.m88_isa.specs.declared.planned.Inputs.{Inputs}

-- a meaning that goes on does so at words
abbrev pub MeaningFits : Meaning → Type 0
MeaningFits (raises vector) = Unit {0}
MeaningFits (traps vector) = Unit {0}
MeaningFits (goes change) = FlowFits change.after change.bubble

-- the address of an instruction and of the one that follows it are those of words
pub record AtWords (x : Inputs) : Type 0 where
  pub pc : x.pc % 4 ≡ 0
  pub next : x.next % 4 ≡ 0

-- to the next two instructions
straight_on : (x : Inputs) → AtWords x → FlowFits (x.next, after_bytes x.next 4) false
straight_on x at =
    let next = at.next in
    record { here = next; behind = omega (arith, next); straight = λ h. absurd (false≢true h) }

computes_fits : (d : Reg) (computed : Computed) (x : Inputs) → AtWords x → MeaningFits (computes d computed x)
computes_fits d (Gives value carry) x at = straight_on x at
computes_fits d (Raises vector) x at = tt

accesses_fits : (op : MemOp) (d : Reg) (place : ℕ) (x : Inputs) → AtWords x → MeaningFits (accesses op d place x)
accesses_fits op d place x at = by_test x.mxm
    (λ on. rw on (straight_on x at))
    (λ off. rw off (by_test (place % size_of op == 0) (λ t. rw t (straight_on x at)) (λ f. rw f tt)))

indexed_fits : (op : MemOp) (d : Reg) (scaled usr : Bool) (x : Inputs) → AtWords x →
    MeaningFits (indexed op d scaled usr x)
indexed_fits op d scaled true x at = tt
indexed_fits op d scaled false x at =
    accesses_fits op d (address x.s1 x.s2 (if scaled then size_of op else 1)) x at

flows_fits : (link delayed : Bool) (target : ℕ) (x : Inputs) → AtWords x → target % 4 ≡ 0 →
    MeaningFits (flows link delayed target x)
flows_fits link true target x at word =
    let pc = at.pc in
    record { here = omega (arith, pc); behind = word; straight = λ h. absurd (false≢true h) }
flows_fits link false target x at word =
    record { here = word; behind = omega (arith, word); straight = λ h. refl }

word_there : (x : Inputs) (words : ℤ) → AtWords x → words_away x.pc words % 4 ≡ 0
word_there x words at = let pc = at.pc in omega (arith, pc)

branches_fits : (taken delayed : Bool) (words : ℤ) (x : Inputs) → AtWords x →
    MeaningFits (branches taken delayed words x)
branches_fits true delayed words x at =
    flows_fits false delayed (words_away x.pc words) x at (word_there x words at)
branches_fits false delayed words x at = straight_on x at

traps_fits : (taken : Bool) (vector : ℕ) (x : Inputs) → AtWords x → MeaningFits (traps_if taken vector x)
traps_fits true vector x at = by_test (nat_lt vector first_user_vector) (λ t. rw t tt) (λ f. rw f tt)
traps_fits false vector x at = straight_on x at

checks_fits : (s t : ℕ) (x : Inputs) → AtWords x → MeaningFits (checks s t x)
checks_fits s t x at = by_test (nat_lt t s) (λ e. rw e tt) (λ e. rw e (straight_on x at))

controls_fits : (float : Bool) → MeaningFits (controls float)
controls_fits true = tt
controls_fits false = tt

-- a line for each form
effect_fits : (i : Instr) (x : Inputs) → AtWords x → MeaningFits (effect i x)
effect_fits (instr.Imm op d s1 imm) x at = computes_fits d (immediate op x.carry x.s1 imm) x at
effect_fits (instr.Regs op d s1 s2) x at = computes_fits d (registers op x.carry x.s1 x.s2) x at
effect_fits (instr.MemImm op d s1 imm) x at = accesses_fits op d (address x.s1 imm 1) x at
effect_fits (instr.MemReg op d s1 s2 scaled usr) x at = indexed_fits op d scaled usr x at
effect_fits (instr.Lda size d s1 s2) x at = straight_on x at
effect_fits (instr.BitLit op d s1 width offset) x at = straight_on x at
effect_fits (instr.BitReg op d s1 s2) x at = straight_on x at
effect_fits (instr.Find ones d s2) x at = straight_on x at
effect_fits (instr.Branch link delayed words) x at =
    flows_fits link delayed (words_away x.pc words) x at (word_there x words at)
effect_fits (instr.BranchBit set delayed bit s1 words) x at = branches_fits (bit_is set bit x.s1) delayed words x at
effect_fits (instr.BranchCond delayed mask s1 words) x at = branches_fits (class_in mask x.s1) delayed words x at
effect_fits (instr.Jump link delayed s2) x at = flows_fits link delayed (word_address x.s2) x at (omega arith)
effect_fits (instr.TrapBit set bit s1 vector) x at = traps_fits (bit_is set bit x.s1) vector x at
effect_fits (instr.TrapCond mask s1 vector) x at = traps_fits (class_in mask x.s1) vector x at
effect_fits (instr.BoundImm s1 imm) x at = checks_fits x.s1 imm x at
effect_fits (instr.BoundReg s1 s2) x at = checks_fits x.s1 x.s2 x at
effect_fits instr.Rte x at = tt
effect_fits (instr.Ldcr d cr float) x at = controls_fits float
effect_fits (instr.Stcr s1 cr float) x at = controls_fits float
effect_fits (instr.Xcr d s1 cr float) x at = controls_fits float
effect_fits (instr.Sfu unit rest) x at = tt

-- and so does its plan
of_plan : (m : Meaning) → MeaningFits m → FlowsToWords (plan_for m)
of_plan (raises vector) h = tt
of_plan (traps vector) h = tt
of_plan (goes change) h = h

-- the plan of what an instruction does, a change of flow in a taken delay slot aside, goes on at words
pub effect_flows : (i : Instr) (regs : List ℕ) (carry mxm : Bool) (pc next : ℕ) → pc % 4 ≡ 0 → next % 4 ≡ 0 →
    FlowsToWords (plan_for (effect i (inputs_of i regs carry mxm pc next)))
effect_flows i regs carry mxm pc next here behind =
    let x = inputs_of i regs carry mxm pc next in
    of_plan (effect i x) (effect_fits i x (record { pc = here; next = behind }))
