-- An image satisfies what each does, and is told by its bytes and its start.
use Rattle.std.proofs.Common.{arith}
use Rattle.m88_base.proofs.SameRuns.{image_of, same_images}
use Rattle.m88_base.proofs.image.Image.part_count.Goals as goal

pub returns-clause-image : goal.returns-clause-image
returns-clause-image c =
    let h = c.self.invariant in
    rw (← c.self.view_is) (image_of c.self.inside.runs c.self.inside.start c.len.ensures.apart h.2 (omega (arith, h.0, h.1)) h.3)

pub returns-clause-same : goal.returns-clause-same
returns-clause-same c = λ other is start bytes.
    same_images other c.args.self.now is.apart (rw (← c.self.view_is) c.len.ensures.apart) start bytes
