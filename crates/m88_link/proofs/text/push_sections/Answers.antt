-- One section more.
use Rattle.m88_link.specs.ObjectRead.{HasSectionText}
use Rattle.m88_link.specs.ObjectText.{section_lines}
use Rattle.m88_link.proofs.Walks.{all_one, text_one}
use Rattle.m88_link.proofs.text.push_sections.Goals as goal

pub loop-section-preserved : goal.loop-section-preserved
loop-section-preserved c = record {
  text =
      text_one c.args.sections.now c.loop-section.section-index c.section-item.result c.loop-section-test.true c.section-item.is
      section_lines c.args.text.now.items c.loop-section.text.items c.push_section.new.text.items c.loop-section.invariant.text c.in_ok-push_section.ensures.text;
  have =
      all_one c.args.sections.now c.loop-section.section-index c.section-item.result c.loop-section-test.true c.section-item.is
      HasSectionText c.loop-section.invariant.have c.in_ok-push_section.ensures.has;
}
