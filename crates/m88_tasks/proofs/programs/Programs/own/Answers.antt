-- A letter is taken, and the program that runs settled.
use Rattle.m88_tasks.specs.Shared.{moments_then}
use Rattle.m88_tasks.proofs.programs.Programs.own.Goals as goal

pub returns-clause-took : goal.returns-clause-took
returns-clause-took c =
    let took = c.in_ok-happened.ensures.took in
    record {
      timeline = λ g moments current held.
          c.settle.ensures g (moments_then g c.args.letter moments current) current (took.timeline g moments current held);
      said = took.said;
    }
