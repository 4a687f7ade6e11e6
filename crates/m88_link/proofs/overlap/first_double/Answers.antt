-- A section that begins below the end so far has the least double address; each other one moves the end or has no byte.
use Rattle.std.proofs.Common.{◌+◌, ◌∙◌, take, subst, sym, arith}
use Rattle.m88_link.specs.Inside.Overlap.{IsLeastDouble}
use Rattle.m88_link.proofs.Swept.{IsSwept, first_double_at, swept_all, swept_empty_at, swept_more_at}
use Rattle.m88_link.proofs.overlap.first_double.Goals as goal
use Rattle.m88_link.proofs.overlap.first_double.Goals.{then-len-gt0+else-at-reach, else-len-gt0}

pub returns-then-at-reach : goal.returns-then-at-reach
returns-then-at-reach c =
    let found = first_double_at c.args.extents.now c.requires c.loop-extent.extent-index c.extent-item.result (omega arith) c.extent-item.is c.loop-extent.reach c.loop-extent.invariant
    (omega arith) (omega arith) in
    subst (λ a. IsLeastDouble c.args.extents.now a) (sym c.at-then-at-reach.ensures) found

pub loop-extent-preserved : goal.loop-extent-preserved
loop-extent-preserved c =
    let i = c.loop-extent.extent-index in
    let e = c.extent-item.result in
    elim c.if-len-gt0.branch [
      | then-len-gt0+else-at-reach w ↦
          let more = swept_more_at c.args.extents.now c.requires i e (omega arith) c.extent-item.is c.loop-extent.reach c.loop-extent.invariant (omega arith) in
          subst (λ r. IsSwept r (take (i + 1) c.args.extents.now)) (sym (w.reach-is ∙ w.end-reach.ensures.value)) more
      | else-len-gt0 w ↦
          let more = swept_empty_at c.args.extents.now c.requires i e (omega arith) c.extent-item.is c.loop-extent.reach c.loop-extent.invariant (omega arith) in
          subst (λ r. IsSwept r (take (i + 1) c.args.extents.now)) (sym w.reach-is) more
    ]

pub returns : goal.returns
returns c = swept_all c.loop-extent.reach c.loop-extent.extent-index c.args.extents.now c.loop-extent.invariant (omega arith)
