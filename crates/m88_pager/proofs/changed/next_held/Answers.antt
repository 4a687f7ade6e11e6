-- The first of those that are held from there on.
use Rattle.m88_pager.proofs.Changing.{next_found}
use Rattle.m88_pager.proofs.changed.next_held.Goals as goal

pub returns-clause-next : goal.returns-clause-next
returns-clause-next c =
    next_found c.args.held.now c.args.from c.next.result c.copied.result c.range.result c.next.new.self c.copied.ensures c.next.ensures.steps
    (c.range.ensures.in_range tt)
