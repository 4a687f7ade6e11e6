-- An image that starts elsewhere satisfies what each does.
use Rattle.std.proofs.Common.{arith}
use Rattle.m88_base.proofs.SameRuns.{image_of}
use Rattle.m88_base.proofs.image.Image.set_start.Goals as goal

pub returns-clause-image : goal.returns-clause-image
returns-clause-image c =
    let h = c.self.invariant in
    image_of c.self.inside.runs c.args.at h.4 h.2 (omega (arith, h.0, h.1)) c.ranges.at.fits
