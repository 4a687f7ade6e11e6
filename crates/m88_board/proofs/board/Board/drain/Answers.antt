-- A route of letters `r`, which stops with nothing pending.
use Rattle.std.proofs.Common.{refl}
use Rattle.std.proofs.lemmas.Result.{on_err_weaker, on_ok_weaker}
use Rattle.m88_event.proofs.Laws.{answered_issues_none}
use Rattle.m88_event.specs.Run.{answered_after}
use Rattle.m88_event.specs.Timeline.{Moment}
use Rattle.m88_board.proofs.Ending.{settled, settled_before}
use Rattle.m88_board.proofs.Walking.{on_ok}
use Rattle.m88_board.proofs.board.Board.drain.Goals as goal

pub returns-clause-ok : goal.returns-clause-ok
returns-clause-ok g c =
    on_ok_weaker c.follow.result (λ ok r m at.
    let went = ok r m at in
    (went.0, went.1, went.2)) c.follow.ensures.ok

pub returns-clause-err : goal.returns-clause-err
returns-clause-err g c =
    on_err_weaker c.follow.result (λ err r m at.
    let went = err r m at in
    (went.0, went.1, went.2)) c.follow.ensures.err

pub returns-clause-settled : goal.returns-clause-settled
returns-clause-settled g c =
    on_ok c.follow.result c.follow.ensures.ok c.follow.ensures.kept (c.follow.ensures.answered refl)
    (λ ok kept none r m at.
    let went = ok r m at in
    let after : Moment = answered_after r m went.0 in
    settled_before r.program m after c.follow.new.self (answered_issues_none r m went.0)
    (settled r after c.follow.new.self went.2.at kept went.1.here none))
