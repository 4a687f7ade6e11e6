-- The words so far are named.
use Rattle.m88_serving.specs.Inside.Naming.{HasNamed}
use Rattle.m88_serving.proofs.naming.name_all.Given as goal

abbrev pub invariant-loop-index : goal.invariant-loop-index
invariant-loop-index l = HasNamed l.words l.index l.image
