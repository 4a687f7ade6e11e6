-- The relocations so far patch words.
use Rattle.std.proofs.Common.{take}
use Rattle.m88_link.specs.Inside.Walked.{ArePatches}
use Rattle.m88_link.proofs.walk.walk_relocs.Given as goal

abbrev pub invariant-loop-index : goal.invariant-loop-index
invariant-loop-index l = ArePatches l.sections (take l.index l.relocs)
