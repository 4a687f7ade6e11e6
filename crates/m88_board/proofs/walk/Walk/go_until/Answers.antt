-- The route of the run's letters: each event took one.
use Rattle.std.proofs.Common.{arith}
use Rattle.std.proofs.lemmas.Result.{on_err_weaker, on_ok_weaker}
use Rattle.m88_event.specs.Run.{IsFirst, NotBefore}
use Rattle.m88_board.proofs.Walking.{by_own}
use Rattle.m88_board.proofs.walk.Walk.go_until.Goals as goal

pub returns-clause-ok : goal.returns-clause-ok
returns-clause-ok g c =
    on_ok_weaker c.follow-went.result (λ ok r m same at.
    let went = ok r m at in
    let own = by_own c.args.until r m _ _ went.0 IsFirst same went.1 went.2 in
    let events = went.3 in
    let before = c.events-before.ensures.value in
    let after = c.events.ensures.value in
    (went.0, own.0, own.1, omega (arith, events, before, after))) c.follow-went.ensures.ok

pub returns-clause-err : goal.returns-clause-err
returns-clause-err g c =
    on_err_weaker c.follow-went.result (λ err r m same at.
    let went = err r m at in
    let own = by_own c.args.until r m _ _ went.0 NotBefore same went.1 went.2 in
    let events = went.3 in
    let before = c.events-before.ensures.value in
    let after = c.events.ensures.value in
    (went.0, own.0, own.1, omega (arith, events, before, after))) c.follow-went.ensures.err
