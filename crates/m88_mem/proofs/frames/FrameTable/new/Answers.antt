-- The table has all its entries.
use Rattle.std.proofs.Common.{◌≡◌, ◌∙◌, ap, arith, replicate, None}
use Rattle.m88_mem.proofs.frames.FrameTable.new.Goals as goal

pub returns : goal.returns
returns c =
    let whole : c.loop.counter ≡ 1024 = omega arith in
    c.loop.invariant ∙ ap (λ n. replicate n None) whole
