-- An event takes something off the weight of what is left.
use Rattle.std.proofs.Common.{◌∙◌, refl, subst, sym}
use Rattle.m88_event.specs.declared.letter.Letter.{Letter}
use Rattle.std.proofs.lemmas.Result.{err_from_is_err_and}
use Rattle.std.specs.Prelude.{Ok}
use Rattle.m88_board.proofs.Weighing.{bounded_next, lighter_next}
use Rattle.m88_board.specs.Board.{BoardView}
use Rattle.m88_board.specs.Inside.Events.{ShownOrStays, TellsEvent}
use Rattle.m88_board.specs.Walks.{IsBounded}
use Rattle.m88_board.proofs.walk.Walk.next_brief.Goals as goal

pub invariant_of-self : goal.invariant_of-self
invariant_of-self g c = record {
  bounded =
      subst (λ (b : BoardView). IsBounded c.args.self.now.schedule.now c.args.self.now.taken b)
      (sym c.in_err-brief.ensures.happens) c.args.self.now.bounded;
}

pub returns-clause-takes : goal.returns-clause-takes
returns-clause-takes g c = record {
  taken = refl;
  lighter =
      let event = c.in_ok-brief.ensures.happens.happens in
      lighter_next c.args.self.now.schedule.now c.args.self.now.taken c.letter-letter.result c.args.self.now.board.now c.step.new.self
      c.args.self.now.bounded c.requires c.letter-letter.ensures event.kept event.same (λ p of. (event.moved p of).moved);
  untaken = tt;
  stays = record { same = c.in_ok-brief.ensures.happens.happens.same; schedule = refl; lender = refl };
}

pub invariant_of-self-2 : goal.invariant_of-self-2
invariant_of-self-2 g c =
    let event = c.in_ok-brief.ensures.happens.happens in
    record {
      bounded =
          bounded_next c.args.self.now.schedule.now c.args.self.now.taken c.args.self.now.board.now c.step.new.self
          c.args.self.now.bounded event.kept event.same event.counted
          (lighter_next c.args.self.now.schedule.now c.args.self.now.taken c.letter-letter.result c.args.self.now.board.now
          c.step.new.self c.args.self.now.bounded c.requires c.letter-letter.ensures event.kept event.same
          (λ p of. (event.moved p of).moved));
    }

pub returns-clause-happens : goal.returns-clause-happens
returns-clause-happens g c =
    subst (λ (letter : Letter). ShownOrStays letter c.args.self.now.board.now (g.W.Watch.seen c.args.watch.now)
    (g.W.Watch.seen c.step.new.watch) (Ok c.in_ok-brief.brief) c.step.new.self) c.letter-letter.ensures
    c.in_ok-brief.ensures.happens

pub returns-clause-tells : goal.returns-clause-tells
returns-clause-tells g c =
    subst (λ (letter : Letter). TellsEvent letter c.args.self.now.board.now c.args.told.now (Ok c.in_ok-brief.brief)
    c.step.new.self c.step.new.told) c.letter-letter.ensures c.in_ok-brief.ensures.tells

pub returns-clause-evicts : goal.returns-clause-evicts
returns-clause-evicts g c = λ letter. c.in_ok-brief.ensures.evicts (c.letter-letter.ensures ∙ letter)

pub returns-in_err-brief-clause-evicts : goal.returns-in_err-brief-clause-evicts
returns-in_err-brief-clause-evicts g c =
    let p = err_from_is_err_and c.from_residual.result c.from_residual.ensures.1 in
    rw (p.1) (λ letter. c.in_err-brief.ensures.evicts (c.letter-letter.ensures ∙ letter))
