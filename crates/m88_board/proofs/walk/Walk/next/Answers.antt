-- What the event in brief comes to.
use Rattle.std.proofs.lemmas.Result.{err_from_is_err_and}
use Rattle.m88_event.specs.Letters.{letter_at}
use Rattle.m88_board.proofs.Nexts.{event_made, next_not_made}
use Rattle.m88_board.proofs.walk.Walk.next.Goals as goal

pub returns-clause-goes : goal.returns-clause-goes
returns-clause-goes g c =
    let next = c.in_ok-brief.ensures in
    let takes = next.takes in
    let stays = takes.stays in
    let walk = c.args.self.now in
    record {
      event = event_made (letter_at walk.schedule.now walk.taken) walk.board.now c.next_brief.new.self.board.now
          c.in_ok-brief.brief c.happened.result c.happened.ensures next.happens.happens next.evicts;
      ok = next.happens.ok;
      takes = record {
        taken = takes.taken;
        lighter = takes.lighter;
        untaken = tt;
        stays = record { same = stays.same; schedule = stays.schedule; lender = stays.lender };
      };
    }

pub returns-in_err-brief-clause-goes : goal.returns-in_err-brief-clause-goes
returns-in_err-brief-clause-goes g c =
    let next = c.in_err-brief.ensures in
    let p = err_from_is_err_and c.from_residual.result c.from_residual.ensures.1 in
    rw (p.1) (next_not_made c.args.self.now c.next_brief.new.self _ _ _ next.happens next.evicts next.takes)
