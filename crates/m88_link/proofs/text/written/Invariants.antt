-- The lines of the objects so far; each has a text.
use Rattle.std.proofs.Common.{◌≡◌, take}
use Rattle.std.specs.Prelude.{All, flat_map}
use Rattle.m88_link.specs.ObjectRead.{HasText}
use Rattle.m88_link.specs.ObjectText.{object_lines}
use Rattle.m88_link.proofs.text.written.Given as goal

abbrev pub invariant-loop-object : goal.invariant-loop-object
invariant-loop-object l = record {
  text : l.text.items ≡ flat_map object_lines (take l.object-index l.objects);
  have : All HasText (take l.object-index l.objects);
}
