-- The line lacks the line end, and no CR belongs to that.
use Rattle.std.proofs.Common.{arith}
use Rattle.m88_srec.proofs.Whole.{stands_whole}
use Rattle.m88_srec.proofs.so_far.whole_line.Goals as goal

pub returns-in-Some : goal.returns-in-Some
returns-in-Some c =
    stands_whole c.args.rest.now c.in-Some.line.now c.in-Some.left.now c.in-Some.ensures.found c.in-Some.ensures.before
    (c.has_cr.ensures c.if-not-has_cr.true) (omega arith)
