-- A section without room is the first, and one that has room has its lines counted.
use Rattle.m88_link.specs.Sound.{HasRoom}
use Rattle.m88_link.specs.Inside.Walked.{section_count, sections_count}
use Rattle.m88_link.proofs.Walks.{all_one, found_one, summed_one}
use Rattle.m88_link.proofs.walk.walk_sections.Goals as goal

pub returns-then-not-has_room : goal.returns-then-not-has_room
returns-then-not-has_room c =
    found_one c.args.sections.now c.loop-section.section-index c.section-item.result c.loop-section-test.true c.section-item.is
    HasRoom c.has_room.result sections_count c.loop-section.lines c.loop-section.invariant.room c.has_room.ensures c.if-not-has_room.true
    c.loop-section.invariant.counted

pub loop-section-preserved : goal.loop-section-preserved
loop-section-preserved c = record {
  room =
      all_one c.args.sections.now c.loop-section.section-index c.section-item.result c.loop-section-test.true c.section-item.is
      HasRoom c.loop-section.invariant.room (c.has_room.ensures.0 c.if-not-has_room.false);
  counted =
      summed_one c.args.sections.now c.loop-section.section-index c.section-item.result c.loop-section-test.true c.section-item.is
      section_count c.loop-section.lines c.section_count-lines.result c.loop-section.invariant.counted c.section_count-lines.ensures;
}
