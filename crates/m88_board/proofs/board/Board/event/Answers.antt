-- What is told in brief, as a whole value.
use Rattle.std.proofs.lemmas.Result.{err_from_is_err_and}
use Rattle.m88_board.proofs.Nexts.{event_made, event_not_made}
use Rattle.m88_board.proofs.board.Board.event.Goals as goal

pub returns : goal.returns
returns c =
    event_made c.args.letter c.args.self.now c.step.new.self c.in_ok-brief.brief c.happened.result c.happened.ensures
    c.in_ok-brief.ensures.happens.happens c.in_ok-brief.ensures.evicts

pub returns-in_err-brief : goal.returns-in_err-brief
returns-in_err-brief c =
    let p = err_from_is_err_and c.from_residual.result c.from_residual.ensures.1 in
    rw (p.1) (event_not_made c.args.letter c.args.self.now c.step.new.self _ c.in_err-brief.ensures.happens
    c.in_err-brief.ensures.evicts)
