-- An object of which a part isn't sound is the first, and one that is sound in its parts has its lines counted.
use Rattle.m88_link.specs.Inside.Walked.{AreSoundParts, object_count}
use Rattle.m88_link.proofs.Walks.{all_one, object_fails, summed_one, walked_sound, walked_unsound}
use Rattle.m88_link.proofs.walk.walk_objects.Goals as goal

pub returns-in-Unsound : goal.returns-in-Unsound
returns-in-Unsound c =
    object_fails c.args.objects.now c.loop-object.object-index c.object-item.result c.loop-object-test.true c.object-item.is
    c.loop-object.lines c.in-Unsound.within c.loop-object.invariant.sound c.loop-object.invariant.counted
    (walked_unsound c.in_ok-more.field-0 _ _ c.in-Unsound.within c.in-Unsound.is c.in_ok-more.ensures)

pub loop-object-preserved : goal.loop-object-preserved
loop-object-preserved c =
    let h = walked_sound c.in_ok-more.field-0 _ _ c.in-Sound.more c.in-Sound.is c.in_ok-more.ensures in
    record {
      sound =
          all_one c.args.objects.now c.loop-object.object-index c.object-item.result c.loop-object-test.true c.object-item.is
          AreSoundParts c.loop-object.invariant.sound h.0;
      counted =
          summed_one c.args.objects.now c.loop-object.object-index c.object-item.result c.loop-object-test.true c.object-item.is
          object_count c.loop-object.lines c.in-Sound.more c.loop-object.invariant.counted h.1;
    }
