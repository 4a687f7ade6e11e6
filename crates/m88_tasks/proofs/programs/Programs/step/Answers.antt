-- The board makes the event of its program.
use Rattle.std.proofs.Common.{ℕ, ap, sym, subst, ◌∙◌}
use Rattle.m88_tasks.proofs.Places.{moved}
use Rattle.m88_tasks.specs.Shared.{moments_then, own_run}
use Rattle.m88_tasks.specs.Tasks.{ArePrograms}
use Rattle.m88_tasks.proofs.programs.Programs.step.Goals as goal

pub invariant_of-self : goal.invariant_of-self
invariant_of-self c = rw c.in_err-happened.ensures.err c.self.invariant

pub invariant_of-self-2 : goal.invariant_of-self-2
invariant_of-self-2 c =
    let some = c.self.invariant in
    record {
      group = some.group;
      moments = moments_then some.group c.args.letter some.moments some.current;
      current = some.current;
      are = moved some.group c.args.letter some.moments some.current _ _ some.are c.in_ok-happened.ensures.happens.timeline c.in_ok-happened.ensures.happens.same;
    }

pub returns-clause-took : goal.returns-clause-took
returns-clause-took c = record {
  timeline = λ g moments current held.
      moved g c.args.letter moments current _ _ (subst (ArePrograms g moments current) (sym c.self.view_is) held)
      c.in_ok-happened.ensures.happens.timeline c.in_ok-happened.ensures.happens.same;
  said = λ g moments current held.
      let are = subst (ArePrograms g moments current) (sym c.self.view_is) held in
      c.in_ok-happened.ensures.happens.said (own_run g current) (moments current) are.board;
}
