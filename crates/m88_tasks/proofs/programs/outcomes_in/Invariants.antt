-- What each program before this one came to.
use Rattle.m88_tasks.proofs.Collecting.{Collected}
use Rattle.m88_tasks.proofs.programs.outcomes_in.Given as goal

abbrev pub invariant-loop-q : goal.invariant-loop-q
invariant-loop-q l = Collected l.fn.contexts.items l.fn.own l.contexts.items l.kept l.outcomes.items l.q
