-- The objects so far are sound in their parts, and their lines are counted.
use Rattle.std.proofs.Common.{◌≡◌, take}
use Rattle.std.specs.Prelude.{All}
use Rattle.m88_link.specs.Inside.Walked.{AreSoundParts, objects_count}
use Rattle.m88_link.proofs.walk.walk_objects.Given as goal

abbrev pub invariant-loop-object : goal.invariant-loop-object
invariant-loop-object l = record {
  sound : All AreSoundParts (take l.object-index l.objects);
  counted : l.lines ≡ objects_count (take l.object-index l.objects);
}
