-- So many places are made.
use Rattle.m88_tasks.proofs.Starting.{AreMade}
use Rattle.m88_tasks.proofs.tasks.Tasks.new.Given as goal

abbrev pub invariant-loop-q : goal.invariant-loop-q
invariant-loop-q l = AreMade l.images l.absent l.limit l.contexts.items l.q
