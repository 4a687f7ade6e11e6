-- The plan is that of the outline, of which the law on every form speaks.
use Rattle.std.proofs.Common.{◌∙◌, subst, sym}
use Rattle.m88_isa.specs.Effect.{FlowsToWords, MakesAccesses, RaisesListed, TrapsForUser, WritesWithin}
use Rattle.m88_isa.specs.Operands.{access_count_of, writes_of}
use Rattle.m88_isa.proofs.Alone.{plan_alone}
use Rattle.m88_isa.proofs.Plans.{touches_aligned}
use Rattle.m88_isa.proofs.effect.plan.Goals as goal

pub returns-clause-value : goal.returns-clause-value
returns-clause-value c = c.in_full.ensures ∙ c.outline.ensures.value

pub returns-clause-accesses : goal.returns-clause-accesses
returns-clause-accesses c =
    subst (MakesAccesses (access_count_of c.args.instr.now)) (sym c.in_full.ensures) c.outline.ensures.accesses

pub returns-clause-register : goal.returns-clause-register
returns-clause-register c =
    subst (WritesWithin (writes_of c.args.instr.now)) (sym c.in_full.ensures) c.outline.ensures.register

pub returns-clause-trap : goal.returns-clause-trap
returns-clause-trap c = subst TrapsForUser (sym c.in_full.ensures) c.outline.ensures.trap

pub returns-clause-raise : goal.returns-clause-raise
returns-clause-raise c = subst RaisesListed (sym c.in_full.ensures) c.outline.ensures.raise

pub returns-clause-flow : goal.returns-clause-flow
returns-clause-flow c = λ here behind. subst FlowsToWords (sym c.in_full.ensures) (c.outline.ensures.flow here behind)

pub returns-clause-aligned : goal.returns-clause-aligned
returns-clause-aligned c = touches_aligned c.args.instr.now c.args.regs.now c.args.carry c.args.mxm c.args.pc c.args.next c.requires

pub returns-clause-alone : goal.returns-clause-alone
returns-clause-alone c = plan_alone c.args.instr.now c.args.regs.now c.args.carry c.args.mxm c.args.pc c.args.next
