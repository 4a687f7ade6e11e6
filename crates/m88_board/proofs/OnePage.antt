-- Two stores of an instruction are to one page: they are the halves of a double word, which is aligned or rounded down.
use Rattle.std.specs.Prelude.{ℕ, ℤ, Bool, true, false, not, [], ◌≡◌, ◌<◌, ◌%◌, ◌^◌, ◌==◌, ◌&&◌, List, nat_lt, if◌then◌else◌}
use Rattle.std.proofs.Common.{arith, refl}
use Rattle.std.proofs.lemmas.Bool.{eqb-true}
use Rattle.m88_base.specs.declared.reg.Reg.{Reg}
use Rattle.m88_isa.proofs.Laws.{by_test, rounded_fits}
use Rattle.m88_isa.specs.Address.{address, after_bytes}
use Rattle.m88_isa.specs.Compute.{immediate, registers}
use Rattle.m88_isa.specs.Effect.{accesses, branches, checks, computes, controls, effect, indexed, inputs_of, meaning_of, plan_for, traps_if}
use Rattle.m88_isa.specs.Flow.{bit_is, class_in}
use Rattle.m88_isa.specs.Memory.{recorded, rounded, size_of, touches_of}
use Rattle.m88_isa.specs.Operands.{is_flow}
use Rattle.m88_isa.specs.Vector.{first_user_vector}
use Rattle.m88_isa.specs.declared.instr.Instr.{Instr}
use Rattle.m88_isa.specs.declared.instr.Instr.TheVariants as instr
use Rattle.m88_isa.specs.declared.instr.MemOp.{MemOp}
use Rattle.m88_isa.specs.declared.instr.MemOp.TheVariants as memop
use Rattle.m88_isa.specs.declared.planned.Computed.{Computed}
use Rattle.m88_isa.specs.declared.planned.Computed.TheVariants.{Gives, Raises}
use Rattle.m88_isa.specs.declared.planned.Inputs.{Inputs}
use Rattle.m88_board.specs.Inside.Turns.{PlansOnePage, StoreOnOnePage}

-- the accesses of a memory mnemonic at an aligned place
touches_page : (op : MemOp) (d : Reg) (value second place : ℕ) → place < 2 ^ 32 → place % size_of op ≡ 0 →
    StoreOnOnePage (recorded (touches_of op d value second place))
touches_page memop.XmemBu d value second place low even = λ more write. absurd cc
touches_page memop.Xmem d value second place low even = λ more write. absurd cc
touches_page memop.LdD d value second place low even = λ more write. absurd cc
touches_page memop.StD d value second place low even = λ more write. (refl, omega (arith, low, even))
touches_page _ d value second place low even = λ more write. absurd (omega (arith, more))

-- an instruction without accesses
none_page : StoreOnOnePage (recorded [])
none_page = λ more write. absurd (omega (arith, more))

computes_page : (d : Reg) (computed : Computed) (x : Inputs) → PlansOnePage (plan_for (computes d computed x))
computes_page d (Gives value carry) x = none_page
computes_page d (Raises vector) x = tt

accesses_page : (op : MemOp) (d : Reg) (place : ℕ) (x : Inputs) → place < 2 ^ 32 →
    PlansOnePage (plan_for (accesses op d place x))
accesses_page op d place x low =
    let fits = rounded_fits op place in
    let lower = fits.1 in
    by_test x.mxm
    (λ on. rw on (touches_page op d x.d x.after_d (rounded op place) (omega (arith, low, lower)) fits.0))
    (λ off. rw off (by_test (place % size_of op == 0)
    (λ t. rw t (touches_page op d x.d x.after_d place low (eqb-true (place % size_of op) 0 t)))
    (λ f. rw f tt)))

indexed_page : (op : MemOp) (d : Reg) (scaled usr : Bool) (x : Inputs) → PlansOnePage (plan_for (indexed op d scaled usr x))
indexed_page op d scaled true x = tt
indexed_page op d scaled false x =
    accesses_page op d (address x.s1 x.s2 (if scaled then size_of op else 1)) x (omega arith)

branches_page : (taken delayed : Bool) (words : ℤ) (x : Inputs) → PlansOnePage (plan_for (branches taken delayed words x))
branches_page true delayed words x = none_page
branches_page false delayed words x = none_page

traps_page : (taken : Bool) (vector : ℕ) (x : Inputs) → PlansOnePage (plan_for (traps_if taken vector x))
traps_page true vector x = by_test (nat_lt vector first_user_vector) (λ t. rw t tt) (λ f. rw f tt)
traps_page false vector x = none_page

checks_page : (s t : ℕ) (x : Inputs) → PlansOnePage (plan_for (checks s t x))
checks_page s t x = by_test (nat_lt t s) (λ e. rw e tt) (λ e. rw e none_page)

controls_page : (float : Bool) → PlansOnePage (plan_for (controls float))
controls_page true = tt
controls_page false = tt

effect_page : (i : Instr) (x : Inputs) → PlansOnePage (plan_for (effect i x))
effect_page (instr.Imm op d s1 imm) x = computes_page d (immediate op x.carry x.s1 imm) x
effect_page (instr.Regs op d s1 s2) x = computes_page d (registers op x.carry x.s1 x.s2) x
effect_page (instr.MemImm op d s1 imm) x = accesses_page op d (address x.s1 imm 1) x (omega arith)
effect_page (instr.MemReg op d s1 s2 scaled usr) x = indexed_page op d scaled usr x
effect_page (instr.BranchBit set delayed bit s1 words) x = branches_page (bit_is set bit x.s1) delayed words x
effect_page (instr.BranchCond delayed mask s1 words) x = branches_page (class_in mask x.s1) delayed words x
effect_page (instr.TrapBit set bit s1 vector) x = traps_page (bit_is set bit x.s1) vector x
effect_page (instr.TrapCond mask s1 vector) x = traps_page (class_in mask x.s1) vector x
effect_page (instr.BoundImm s1 imm) x = checks_page x.s1 imm x
effect_page (instr.BoundReg s1 s2) x = checks_page x.s1 x.s2 x
effect_page instr.Rte x = tt
effect_page (instr.Ldcr d cr float) x = controls_page float
effect_page (instr.Stcr s1 cr float) x = controls_page float
effect_page (instr.Xcr d s1 cr float) x = controls_page float
effect_page (instr.Sfu unit rest) x = tt
effect_page _ x = none_page

pub one_page : (i : Instr) (regs : List ℕ) (carry mxm : Bool) (pc next : ℕ) →
    PlansOnePage (plan_for (meaning_of i regs carry mxm pc next))
one_page i regs carry mxm pc next =
    by_test (is_flow i && not (next == after_bytes pc 4))
    (λ t. rw t tt)
    (λ f. rw f (effect_page i (inputs_of i regs carry mxm pc next)))
