-- The context's outcome.
use Rattle.m88_tasks.proofs.Collecting.{outcome_saved}
use Rattle.m88_tasks.proofs.programs.outcome_of.Goals as goal

pub returns-in-Some-clause-came : goal.returns-in-Some-clause-came
returns-in-Some-clause-came c =
    outcome_saved c.outcome.result c.args.context c.args.own.now c.in-Some.context c.in-Some.is c.outcome.ensures.moment
