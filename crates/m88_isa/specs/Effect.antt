-- What every instruction does, a line for each form ("Instruction Set"; "Exception Processing" for the vectors). That
-- a change of flow in a taken delay slot is unimplemented, that the float forms of the control instructions raise the
-- first unit's vector, and that an untaken trap has no effect even where its vector is the supervisor's, is this
-- project's profile.
use Rattle.std.specs.Prelude.{ℕ, ℤ, Bool, false, not, List, [], ◌∷◌, Option, Some, None, IfSome, ◌≡◌, ◌<◌, ◌≤◌, ◌%◌, ◌==◌, ◌&&◌, nat_lt, slice_index, if◌then◌else◌}
use Rattle.std.specs.Int.{bit_at}
use Rattle.m88_base.specs.declared.reg.Reg.{Reg}
use Rattle.m88_base.specs.Reg.{number_of}
use Rattle.m88_isa.specs.Address.{address, after_bytes, scale_of, word_address}
use Rattle.m88_isa.specs.Compute.{immediate, registers}
use Rattle.m88_isa.specs.Fields.{bit_field, find_bit, offset_in, width_in, width_of}
use Rattle.m88_isa.specs.Flow.{FlowFits, bit_is, class_in, words_away}
use Rattle.m88_isa.specs.Lanes.{IsAligned}
use Rattle.m88_isa.specs.Memory.{AreWordAccesses, Touch, recorded, rounded, size_of, touches_of}
use Rattle.m88_isa.specs.Operands.{after_d_of, d_of, is_flow, link_register, register_after, s1_of, s2_of, uses_of}
use Rattle.m88_isa.specs.Vector.{IsRaised, first_user_vector, misaligned, out_of_bounds, privilege, unimplemented, unit_vector}
use Rattle.m88_isa.specs.declared.planned.Computed.{Computed}
use Rattle.m88_isa.specs.declared.planned.Computed.TheVariants.{Gives, Raises}
use Rattle.m88_isa.specs.declared.planned.Effect.{Effect}
use Rattle.m88_isa.specs.declared.planned.Inputs.{Inputs}
use Rattle.m88_isa.specs.declared.planned.Plan.{Plan}
use Rattle.m88_isa.specs.declared.planned.Plan.TheVariants.{Go, Raise, Trap}
use Rattle.m88_isa.specs.declared.planned.Outline.{Outline}
use Rattle.m88_isa.specs.declared.planned.Outline.TheVariants as outline
use Rattle.m88_isa.specs.declared.planned.Outline.TheVariants.{Flow, Memory, Next}
use Rattle.m88_isa.specs.declared.instr.MemOp.{MemOp}
use Rattle.m88_isa.specs.declared.instr.Instr.{Instr}
use Rattle.m88_isa.specs.declared.instr.Instr.TheVariants as instr

-- the changes of an instruction: at most one register that is written at once, the carry, at most two accesses in
-- order, the addresses of the two instructions that follow, and whether a fetched one is passed over
pub record Change : Type 0 where
  pub register : Option (Reg × ℕ)
  pub carry : Bool
  pub touches : List Touch
  pub after : ℕ × ℕ
  pub bubble : Bool

-- what an instruction does: it raises a vector, it is a taken trap of a vector, or it makes its changes
pub data Meaning : Type 0 where
  raises : ℕ → Meaning
  traps : ℕ → Meaning
  goes : Change → Meaning

-- no change but that the program goes on
abbrev pub goes_on : Inputs → Change
goes_on x = record {
  register = None;
  carry = x.carry;
  touches = [];
  after = (x.next, after_bytes x.next 4);
  bubble = false;
}

-- a register and its new value; a write to r0 is lost
abbrev pub written : Reg → ℕ → Option (Reg × ℕ)
written d value = if number_of d == 0 then None else Some (d, value)

-- D takes a value
abbrev pub gives : Reg → ℕ → Inputs → Meaning
gives d value x = goes (record (goes_on x) { register = written d value })

-- D and the carry take what was computed, or nothing changes and the vector is raised
abbrev pub computes : Reg → Computed → Inputs → Meaning
computes d (Gives value carry) x = goes (record (goes_on x) { register = written d value; carry = carry })
computes d (Raises vector) x = raises vector

-- the accesses to memory at an address, as they stand
abbrev pub makes : MemOp → Reg → ℕ → Inputs → Meaning
makes op d place x = goes (record (goes_on x) { touches = touches_of op d x.d x.after_d place })

-- the same at an address that must be a multiple of the size of the datum, or with MXM set is rounded down to one
abbrev pub accesses : MemOp → Reg → ℕ → Inputs → Meaning
accesses op d place x =
    if x.mxm then makes op d (rounded op place) x
    else if place % size_of op == 0 then makes op d place x
    else raises misaligned

-- the same with an index, which counts data of that size where it is scaled; the forms for the user's address space
-- are for the supervisor alone
abbrev pub indexed : MemOp → Reg → Bool → Bool → Inputs → Meaning
indexed op d scaled usr x =
    if usr then raises privilege else accesses op d (address x.s1 x.s2 (if scaled then size_of op else 1)) x

-- a change of flow to a target. With a delay slot the next instruction comes first; without it that one is passed
-- over. A link puts the address behind the branch, or behind its delay slot, into r1.
abbrev pub flows : Bool → Bool → ℕ → Inputs → Meaning
flows link delayed target x =
    goes (record {
      register = if link then Some (link_register, after_bytes x.pc (if delayed then 8 else 4)) else None;
      carry = x.carry;
      touches = [];
      after = if delayed then (after_bytes x.pc 4, target) else (target, after_bytes target 4);
      bubble = not delayed;
    })

-- a branch on a condition, by a signed count of words
abbrev pub branches : Bool → Bool → ℤ → Inputs → Meaning
branches taken delayed words x = if taken then flows false delayed (words_away x.pc words) x else goes (goes_on x)

-- a trap on a condition; the vectors below the user's are for the supervisor alone
abbrev pub traps_if : Bool → ℕ → Inputs → Meaning
traps_if taken vector x =
    if taken then (if nat_lt vector first_user_vector then raises privilege else traps vector) else goes (goes_on x)

-- a bounds check: unsigned, the first word isn't above the second
abbrev pub checks : ℕ → ℕ → Inputs → Meaning
checks s t x = if nat_lt t s then raises out_of_bounds else goes (goes_on x)

-- a control instruction: for the supervisor alone, or the first unit's where it is a float form
abbrev pub controls : Bool → Meaning
controls float = if float then raises (unit_vector 1) else raises privilege

-- what an instruction does of its inputs, a change of flow in a taken delay slot aside
abbrev pub effect : Instr → Inputs → Meaning
effect (instr.Imm op d s1 imm) x = computes d (immediate op x.carry x.s1 imm) x
effect (instr.Regs op d s1 s2) x = computes d (registers op x.carry x.s1 x.s2) x
effect (instr.MemImm op d s1 imm) x = accesses op d (address x.s1 imm 1) x
effect (instr.MemReg op d s1 s2 scaled usr) x = indexed op d scaled usr x
effect (instr.Lda size d s1 s2) x = gives d (address x.s1 x.s2 (scale_of size)) x
effect (instr.BitLit op d s1 width offset) x = gives d (bit_field op x.s1 (width_of width) offset) x
effect (instr.BitReg op d s1 s2) x = gives d (bit_field op x.s1 (width_in x.s2) (offset_in x.s2)) x
effect (instr.Find ones d s2) x = gives d (find_bit ones x.s2) x
effect (instr.Branch link delayed words) x = flows link delayed (words_away x.pc words) x
effect (instr.BranchBit set delayed bit s1 words) x = branches (bit_is set bit x.s1) delayed words x
effect (instr.BranchCond delayed mask s1 words) x = branches (class_in mask x.s1) delayed words x
effect (instr.Jump link delayed s2) x = flows link delayed (word_address x.s2) x
effect (instr.TrapBit set bit s1 vector) x = traps_if (bit_is set bit x.s1) vector x
effect (instr.TrapCond mask s1 vector) x = traps_if (class_in mask x.s1) vector x
effect (instr.BoundImm s1 imm) x = checks x.s1 imm x
effect (instr.BoundReg s1 s2) x = checks x.s1 x.s2 x
effect instr.Rte x = raises privilege
effect (instr.Ldcr d cr float) x = controls float
effect (instr.Stcr s1 cr float) x = controls float
effect (instr.Xcr d s1 cr float) x = controls float
effect (instr.Sfu unit rest) x = raises (unit_vector unit)

-- the value of a register; r0 reads as 0
abbrev pub register : List ℕ → Reg → ℕ
register regs r = if number_of r == 0 then 0 else slice_index regs (number_of r)

-- what an instruction has to go by: the registers that it reads, the carry, MXM, its address and the following one
abbrev pub inputs_of : Instr → List ℕ → Bool → Bool → ℕ → ℕ → Inputs
inputs_of i regs carry mxm pc next = record {
  s1 = register regs (s1_of i);
  s2 = register regs (s2_of i);
  d = register regs (d_of i);
  after_d = register regs (after_d_of i);
  carry = carry;
  mxm = mxm;
  pc = pc;
  next = next;
}

-- what an instruction does: in a taken delay slot, where the next address isn't the one behind it, a change of flow is
-- unimplemented before it raises anything else
abbrev pub meaning_of : Instr → List ℕ → Bool → Bool → ℕ → ℕ → Meaning
meaning_of i regs carry mxm pc next =
    if is_flow i && not (next == after_bytes pc 4) then raises unimplemented
    else effect i (inputs_of i regs carry mxm pc next)

-- the meaning with its accesses as the data unit records them
abbrev pub recorded_change : Change → Effect
recorded_change c = record {
  reg = c.register;
  carry = c.carry;
  accesses = recorded c.touches;
  after = c.after;
  bubble = c.bubble;
}

-- what an instruction means, as the call `plan` answers it
abbrev pub plan_for : Meaning → Plan
plan_for (raises vector) = Raise vector
plan_for (traps vector) = Trap vector
plan_for (goes c) = Go (recorded_change c)

-- the plan of an instruction: of the registers, the carry and MXM, at an address, with the address that follows
abbrev pub plan_of : Instr → List ℕ → Bool → Bool → ℕ → ℕ → Plan
plan_of i regs carry mxm pc next = plan_for (meaning_of i regs carry mxm pc next)

-- the accesses of a memory mnemonic at an address, of the values that the registers hold
abbrev pub touches_at : MemOp → Reg → ℕ → List ℕ → List Touch
touches_at op d place regs = touches_of op d (register regs d) (register regs (register_after d)) place

-- the plan that an outline stands for, with the registers, the carry and the address that follows
abbrev pub plan_of_outline : Outline → List ℕ → Bool → ℕ → Plan
plan_of_outline (Next reg carry_after) regs carry next = Go (record {
  reg = reg;
  carry = carry_after;
  accesses = recorded [];
  after = (next, after_bytes next 4);
  bubble = false;
})
plan_of_outline (Flow reg after bubble) regs carry next = Go (record {
  reg = reg;
  carry = carry;
  accesses = recorded [];
  after = after;
  bubble = bubble;
})
plan_of_outline (Memory op d place) regs carry next = Go (record {
  reg = None;
  carry = carry;
  accesses = recorded (touches_at op d place regs);
  after = (next, after_bytes next 4);
  bubble = false;
})
plan_of_outline (outline.Raise vector) regs carry next = Raise vector
plan_of_outline (outline.Trap vector) regs carry next = Trap vector

-- a fact about the changes of a plan that goes on
abbrev pub IfGo : Plan → (Effect → Type 0) → Type 0
IfGo (Go changes) Fact = Fact changes
IfGo _ Fact = Unit {0}

-- a fact about the vector of a plan that is a taken trap
abbrev pub IfTrap : Plan → (ℕ → Type 0) → Type 0
IfTrap (Trap vector) Fact = Fact vector
IfTrap _ Fact = Unit {0}

-- a fact about the vector of a plan that raises one
abbrev pub IfRaise : Plan → (ℕ → Type 0) → Type 0
IfRaise (Raise vector) Fact = Fact vector
IfRaise _ Fact = Unit {0}

-- a plan makes that many accesses, each of which the data unit can make
abbrev pub MakesAccesses : ℕ → Plan → Type 0
MakesAccesses count plan = IfGo plan (λ changes. AreWordAccesses count changes.accesses)

-- a plan writes at once no register outside a set, a bit for each
abbrev pub WritesWithin : ℕ → Plan → Type 0
WritesWithin set plan = IfGo plan (λ changes. IfSome changes.reg (λ write. bit_at set (number_of write.0) ≡ 1))

-- a plan that is a taken trap has one of the user's 384 vectors
abbrev pub TrapsForUser : Plan → Type 0
TrapsForUser plan = IfTrap plan (λ vector. (first_user_vector ≤ vector) × (vector < 512))

-- a plan that raises has one of the instructions' vectors, all of which are the supervisor's
abbrev pub RaisesListed : Plan → Type 0
RaisesListed plan = IfRaise plan (λ vector. (vector < first_user_vector) × IsRaised vector)

-- a plan that goes on does so at words, behind a target too
abbrev pub FlowsToWords : Plan → Type 0
FlowsToWords plan = IfGo plan (λ changes. FlowFits changes.after changes.bubble)

-- every access of a list is aligned to its size
abbrev pub AreAligned : List Touch → Type 0
AreAligned [] = Unit {0}
AreAligned (t ∷ touches) = IsAligned t.place t.size × AreAligned touches

-- every access of what an instruction does is aligned to its size
abbrev pub TouchesAligned : Meaning → Type 0
TouchesAligned (raises vector) = Unit {0}
TouchesAligned (traps vector) = Unit {0}
TouchesAligned (goes change) = AreAligned change.touches

-- two lists of registers have the same value at each register of a set, a bit for each
abbrev pub AgreesOn : ℕ → List ℕ → List ℕ → Type 0
AgreesOn registers regs other =
    (r : ℕ) → bit_at registers r ≡ 1 → slice_index regs r ≡ slice_index other r

-- the plan looks at no register outside those that the instruction uses
abbrev pub IgnoresUnused : Instr → List ℕ → Bool → Bool → ℕ → ℕ → Type 0
IgnoresUnused i regs carry mxm pc next =
    (other : List ℕ) → AgreesOn (uses_of i) regs other
    → plan_of i other carry mxm pc next ≡ plan_of i regs carry mxm pc next
