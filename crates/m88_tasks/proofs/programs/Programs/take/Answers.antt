-- A letter of the program that runs, or the letter `t`.
use Rattle.std.proofs.Common.{ap, subst, sym}
use Rattle.m88_tasks.specs.Tasks.{IsTaken}
use Rattle.m88_tasks.specs.declared.letter.ShareLetter.{ShareLetter}
use Rattle.m88_tasks.specs.declared.letter.ShareLetter.TheVariants as share
use Rattle.m88_tasks.specs.declared.turned.Turned.TheVariants as turned
use Rattle.m88_tasks.proofs.programs.Programs.take.Goals as goal

pub returns-in_ok-own-in-Own-clause-taken : goal.returns-in_ok-own-in-Own-clause-taken
returns-in_ok-own-in-Own-clause-taken c = λ g s was alive number joined.
    let own : IsTaken g (share.Own c.in-Own.letter) s (turned.Own c.in_ok-own-in-Own.field-0) c.own.new.self c.args.switches.now.items = record {
      says = ap (λ happened. turned.Own happened) (c.in_ok-own-in-Own.ensures.took.said g s.moments s.current was);
      programs = c.in_ok-own-in-Own.ensures.took.timeline g s.moments s.current was;
      joined = joined;
    } in
    subst (λ (l : ShareLetter). IsTaken g l s (turned.Own c.in_ok-own-in-Own.field-0) c.own.new.self c.args.switches.now.items) (sym c.in-Own.is) own
