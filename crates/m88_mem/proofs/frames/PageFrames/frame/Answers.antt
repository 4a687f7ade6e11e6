-- Each frame has its words.
use Rattle.std.proofs.Common.{◌≡◌, Some, rules}
use Rattle.m88_mem.specs.Inside.Frames.{frame_at, frame_in}
use Rattle.m88_mem.proofs.frames.PageFrames.frame.Goals as goal

pub returns-clause-long : goal.returns-clause-long
unfolding frame_in
returns-clause-long c =
    let at : frame_at c.self.inside.tables.items c.args.page ≡ Some c.in-Some-Some-get.frame = search rules in
    c.self.invariant.words c.args.page c.in-Some-Some-get.frame at
