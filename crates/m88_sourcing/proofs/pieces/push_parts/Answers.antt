-- One part more, and all.
use Rattle.std.proofs.Common.{arith}
use Rattle.m88_base.specs.Image.{parts}
use Rattle.m88_sourcing.proofs.Appending.{front_then}
use Rattle.m88_sourcing.proofs.Piecing.{all_parts, next_part}
use Rattle.m88_sourcing.proofs.pieces.push_parts.Goals as goal

pub loop-index-preserved : goal.loop-index-preserved
loop-index-preserved c = λ said is.
    front_then _ _ _ c.args.text.now.items c.loop-index.text.items c.push_part.new.text.items
    (c.loop-index.invariant said is)
    (next_part c.args.image.now said (parts c.args.image.now) c.loop-index.index _ _ c.loop-index.text.items
    c.push_part.new.text.items c.part-at.ensures.value (c.in_ok-push_part.ensures said is))

pub returns-clause-lines : goal.returns-clause-lines
returns-clause-lines c = λ said is.
    all_parts c.args.image.now said (parts c.args.image.now) c.loop-index.index _ _ (omega arith)
    (c.loop-index.invariant said is)
