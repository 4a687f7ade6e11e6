-- One object more.
use Rattle.std.proofs.Common.{[]}
use Rattle.m88_link.specs.ObjectRead.{HasText}
use Rattle.m88_link.specs.ObjectText.{object_lines}
use Rattle.m88_link.proofs.Walks.{all_one, text_one}
use Rattle.m88_link.proofs.text.written.Goals as goal

pub loop-object-preserved : goal.loop-object-preserved
loop-object-preserved c = record {
  text =
      text_one c.args.objects.now c.loop-object.object-index c.object-item.result c.loop-object-test.true c.object-item.is
      object_lines [] c.loop-object.text.items c.push_object.new.text.items c.loop-object.invariant.text c.in_ok-push_object.ensures.text;
  have =
      all_one c.args.objects.now c.loop-object.object-index c.object-item.result c.loop-object-test.true c.object-item.is
      HasText c.loop-object.invariant.have c.in_ok-push_object.ensures.has;
}
