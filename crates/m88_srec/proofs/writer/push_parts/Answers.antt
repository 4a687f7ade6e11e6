-- The lines of one part more.
use Rattle.m88_srec.proofs.Cutting.{more_parts}
use Rattle.m88_srec.proofs.writer.push_parts.Goals as goal

pub loop-index-preserved : goal.loop-index-preserved
loop-index-preserved c =
    more_parts _ _ _ _ c.loop-index.index _ c.part-at.ensures.value c.loop-index.invariant c.in_ok-push_part.ensures
