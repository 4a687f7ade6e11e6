-- The outline is that of the definition, of which the law on every form speaks.
use Rattle.std.proofs.Common.{subst, sym}
use Rattle.m88_isa.specs.Effect.{FlowsToWords, MakesAccesses, RaisesListed, TrapsForUser, WritesWithin, effect, inputs_of}
use Rattle.m88_isa.specs.Operands.{access_count_of, writes_of}
use Rattle.m88_isa.proofs.Flows.{effect_flows}
use Rattle.m88_isa.proofs.Plans.{effect_lawful, made_of, raised_of, trapped_of, within_of}
use Rattle.m88_isa.proofs.effect.outline.Goals as goal

pub returns-clause-accesses : goal.returns-clause-accesses
returns-clause-accesses c =
    let i = c.args.instr.now in
    let x = inputs_of i c.args.regs.now c.args.carry c.args.mxm c.args.pc c.args.next in
    subst (MakesAccesses (access_count_of i)) (sym c.effect.ensures)
    (made_of (access_count_of i) (writes_of i) (effect i x) (effect_lawful i x c.requires))

pub returns-clause-register : goal.returns-clause-register
returns-clause-register c =
    let i = c.args.instr.now in
    let x = inputs_of i c.args.regs.now c.args.carry c.args.mxm c.args.pc c.args.next in
    subst (WritesWithin (writes_of i)) (sym c.effect.ensures)
    (within_of (access_count_of i) (writes_of i) (effect i x) (effect_lawful i x c.requires))

pub returns-clause-trap : goal.returns-clause-trap
returns-clause-trap c =
    let i = c.args.instr.now in
    let x = inputs_of i c.args.regs.now c.args.carry c.args.mxm c.args.pc c.args.next in
    subst TrapsForUser (sym c.effect.ensures)
    (trapped_of (access_count_of i) (writes_of i) (effect i x) (effect_lawful i x c.requires))

pub returns-clause-raise : goal.returns-clause-raise
returns-clause-raise c =
    let i = c.args.instr.now in
    let x = inputs_of i c.args.regs.now c.args.carry c.args.mxm c.args.pc c.args.next in
    subst RaisesListed (sym c.effect.ensures)
    (raised_of (access_count_of i) (writes_of i) (effect i x) (effect_lawful i x c.requires))

pub returns-clause-flow : goal.returns-clause-flow
returns-clause-flow c = λ here behind.
    let i = c.args.instr.now in
    subst FlowsToWords (sym c.effect.ensures)
    (effect_flows i c.args.regs.now c.args.carry c.args.mxm c.args.pc c.args.next here behind)
