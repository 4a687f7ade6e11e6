-- One part more, and all parts.
use Rattle.std.proofs.Common.{arith}
use Rattle.m88_base.specs.Image.{parts}
use Rattle.m88_disasm.proofs.Lines.{all_parts, more_parts}
use Rattle.m88_disasm.proofs.Sizes.{more_room}
use Rattle.m88_disasm.proofs.lister.push_parts.Goals as goal

pub loop-index-preserved : goal.loop-index-preserved
loop-index-preserved c = record {
  lines =
      more_parts (parts c.args.image.now) c.loop-index.index _ _ _ _ _ c.part-at.ensures.value
      c.loop-index.invariant.lines
      c.in_ok-push_place.ensures c.in_ok-push_bytes.ensures.lines;
  room =
      more_room (parts c.args.image.now) c.loop-index.index _ _ _ _ _ c.part-at.ensures.value
      c.part-at.ensures.part.some
      c.loop-index.invariant.room c.in_ok-push_place.ensures c.in_ok-push_bytes.ensures.room;
}

pub returns-clause-lines : goal.returns-clause-lines
returns-clause-lines c = all_parts (parts c.args.image.now) c.loop-index.index _ _ (omega arith)
    c.loop-index.invariant.lines
