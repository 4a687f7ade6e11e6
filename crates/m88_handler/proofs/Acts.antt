-- What an instruction does can be done.
use Rattle.std.specs.Prelude.{ℕ, Bool, true, false, ◌<◌}
use Rattle.std.proofs.Common.{subst}
use Rattle.m88_isa.specs.Effect.{FlowsToWords, MakesAccesses}
use Rattle.m88_isa.specs.Memory.{AreWordAccesses}
use Rattle.m88_isa.specs.declared.instr.Instr.{Instr}
use Rattle.m88_isa.specs.declared.instr.Instr.TheVariants as instr
use Rattle.m88_isa.specs.declared.planned.Accesses.{Accesses}
use Rattle.m88_isa.specs.declared.planned.Plan.{Plan}
use Rattle.m88_isa.specs.declared.planned.Plan.TheVariants.{Go, Raise, Trap}
use Rattle.m88_handler.specs.Inside.Steps.{AreMakable, CanBeDone}
use Rattle.m88_handler.specs.Machine.{act_by, control_act, memory_act, trap_act}
use Rattle.m88_handler.specs.declared.act.Act.{Act}

makable : (n : ℕ) (accesses : Accesses) → AreWordAccesses n accesses → AreMakable accesses
makable n accesses h = record {
  first = λ some. h.1 (subst (λ (k : ℕ). 0 < k) h.0 some);
  second = λ some. h.2 (subst (λ (k : ℕ). 1 < k) h.0 some);
}

memory_fits : (usr : Bool) (p : Plan) (n : ℕ) → MakesAccesses n p → FlowsToWords p → CanBeDone (memory_act usr p)
memory_fits usr (Raise vector) n m f = tt
memory_fits usr (Trap vector) n m f = tt
memory_fits true (Go e) n m f = record { accesses = makable n e.accesses m; flow = f }
memory_fits false (Go e) n m f = record { accesses = makable n e.accesses m; flow = f }

trap_fits : (vector : ℕ) (p : Plan) (n : ℕ) → MakesAccesses n p → FlowsToWords p → CanBeDone (trap_act vector p)
trap_fits vector (Raise _) n m f = tt
trap_fits vector (Trap _) n m f = tt
trap_fits vector (Go e) n m f = record { accesses = makable n e.accesses m; flow = f }

control_fits : (float : Bool) (act : Act) (p : Plan) (n : ℕ) → CanBeDone act → MakesAccesses n p → FlowsToWords p
    → CanBeDone (control_act float act p)
control_fits true act p n a m f = memory_fits false p n m f
control_fits false act p n a m f = a

pub act_fits : (i : Instr) (p : Plan) (n : ℕ) → MakesAccesses n p → FlowsToWords p → CanBeDone (act_by i p)
act_fits (instr.MemReg op d s1 s2 scaled usr) p n m f = memory_fits usr p n m f
act_fits (instr.TrapBit set bit s1 vector) p n m f = trap_fits vector p n m f
act_fits (instr.TrapCond mask s1 vector) p n m f = trap_fits vector p n m f
act_fits (instr.Ldcr d cr float) p n m f = control_fits float _ p n tt m f
act_fits (instr.Stcr s1 cr float) p n m f = control_fits float _ p n tt m f
act_fits (instr.Xcr d s1 cr float) p n m f = control_fits float _ p n tt m f
act_fits instr.Rte p n m f = tt
act_fits _ p n m f = memory_fits false p n m f
