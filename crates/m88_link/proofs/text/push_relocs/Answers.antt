-- One relocation more.
use Rattle.m88_link.specs.ObjectRead.{HasRelocText}
use Rattle.m88_link.specs.ObjectText.{reloc_line}
use Rattle.m88_link.proofs.Walks.{all_one, text_one}
use Rattle.m88_link.proofs.text.push_relocs.Goals as goal

pub loop-reloc-preserved : goal.loop-reloc-preserved
loop-reloc-preserved c = record {
  text =
      text_one c.args.relocs.now c.loop-reloc.reloc-index c.reloc-item.result c.loop-reloc-test.true c.reloc-item.is
      reloc_line c.args.text.now.items c.loop-reloc.text.items c.push_reloc.new.text.items c.loop-reloc.invariant.text c.in_ok-push_reloc.ensures.text;
  have =
      all_one c.args.relocs.now c.loop-reloc.reloc-index c.reloc-item.result c.loop-reloc-test.true c.reloc-item.is
      HasRelocText c.loop-reloc.invariant.have c.in_ok-push_reloc.ensures.has;
}
