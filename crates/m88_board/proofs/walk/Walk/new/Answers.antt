-- A board before its first event bounds a walk.
use Rattle.std.proofs.Common.{arith}
use Rattle.m88_board.proofs.Weighing.{bounded_first}
use Rattle.m88_board.proofs.walk.Walk.new.Goals as goal

pub invariant_of-result : goal.invariant_of-result
invariant_of-result c =
    let count = c.len.ensures.value in
    let bound = c.len.ensures.bound in
    record { bounded = bounded_first c.args.schedule.now c.args.board.now c.events.ensures.kept c.requires (omega (arith, count, bound)) }
