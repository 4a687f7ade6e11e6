use Rattle.std.proofs.Common.{[], arith}
use Rattle.m88_base.specs.Inside.Blocks.{all_runs}
use Rattle.m88_base.proofs.Cuts.{free_gap, gap_between, taken_in_last, taken_in_next}
use Rattle.m88_base.proofs.segments.Segments.first_taken.Goals as goal

pub returns-then-next-from-clause-taken : goal.returns-then-next-from-clause-taken
returns-then-next-from-clause-taken c =
    rw (← c.self.view_is)
    (taken_in_last (all_runs c.self.inside.runs) c.args.index c.args.next c.args.at c.args.count c.self.invariant (rw (← c.self.view_is) at c.requires) (omega arith))

pub returns-then-from-count-clause-taken : goal.returns-then-from-count-clause-taken
returns-then-from-count-clause-taken c =
    rw (← c.self.view_is, c.at-first.ensures)
    (taken_in_next (all_runs c.self.inside.runs) c.args.index c.args.next c.args.at c.args.count c.get.result.now c.self.invariant
    (rw (← c.self.view_is) at c.requires) (omega arith) (omega arith) c.get.ensures (omega arith))

pub returns-else-from-count-clause-gap : goal.returns-else-from-count-clause-gap
returns-else-from-count-clause-gap c =
    rw (← c.self.view_is)
    (gap_between (all_runs c.self.inside.runs) c.args.index c.args.next c.args.at c.args.count c.get.result.now (rw (← c.self.view_is) at c.requires) (omega arith)
    (λ l. (c.get.ensures, omega arith)))

pub returns-else-index-len-clause-gap : goal.returns-else-index-len-clause-gap
returns-else-index-len-clause-gap c =
    rw (← c.self.view_is)
    (gap_between (all_runs c.self.inside.runs) c.args.index c.args.next c.args.at c.args.count (record { at = 0; bytes = [] }) (rw (← c.self.view_is) at c.requires) (omega arith)
    (λ l. absurd (omega arith)))

pub returns-else-from-count-clause-free : goal.returns-else-from-count-clause-free
returns-else-from-count-clause-free c =
    rw (← c.self.view_is)
    (free_gap (all_runs c.self.inside.runs) c.args.index c.args.at c.args.count c.self.invariant
    (gap_between (all_runs c.self.inside.runs) c.args.index c.args.next c.args.at c.args.count c.get.result.now (rw (← c.self.view_is) at c.requires) (omega arith)
    (λ l. (c.get.ensures, omega arith))))

pub returns-else-index-len-clause-free : goal.returns-else-index-len-clause-free
returns-else-index-len-clause-free c =
    rw (← c.self.view_is)
    (free_gap (all_runs c.self.inside.runs) c.args.index c.args.at c.args.count c.self.invariant
    (gap_between (all_runs c.self.inside.runs) c.args.index c.args.next c.args.at c.args.count (record { at = 0; bytes = [] }) (rw (← c.self.view_is) at c.requires)
    (omega arith) (λ l. absurd (omega arith))))
