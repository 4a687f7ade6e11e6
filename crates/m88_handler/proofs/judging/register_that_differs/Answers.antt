-- The first of the registers that are left differs or doesn't, or none is left.
use Rattle.std.proofs.Common.{◌-◌, ◌+◌, ◌∙◌, arith, sym}
use Rattle.m88_handler.proofs.Searching.{fails, none_left, passes}
use Rattle.m88_handler.specs.Judging.{register_differs}
use Rattle.m88_handler.proofs.judging.register_that_differs.Goals as goal

pub returns-then-register_differs-clause-number : goal.returns-then-register_differs-clause-number
returns-then-register_differs-clause-number c =
    sym (passes c.loop-r.r (32 - c.loop-r.r) (register_differs c.args.left.now c.args.wanted.now) (omega arith)
    (sym c.register_differs.ensures ∙ c.if-register_differs.true)) ∙ c.loop-r.invariant

pub loop-r-preserved : goal.loop-r-preserved
loop-r-preserved c =
    sym (fails c.loop-r.r (32 - c.loop-r.r) (32 - (c.loop-r.r + 1)) (register_differs c.args.left.now c.args.wanted.now) (omega arith)
    (sym c.register_differs.ensures ∙ c.if-register_differs.false)) ∙ c.loop-r.invariant

pub returns-clause-number : goal.returns-clause-number
returns-clause-number c =
    sym (none_left c.loop-r.r (32 - c.loop-r.r) (register_differs c.args.left.now c.args.wanted.now) (omega arith)) ∙ c.loop-r.invariant
