-- The line of a transaction that was served is that of its access.
use Rattle.std.proofs.Common.{◌∙◌, ◌++◌, List, ap, sym, ℕ}
use Rattle.m88_monitor.specs.Serving.{triple_at}
use Rattle.m88_serving.proofs.Written.{its_line}
use Rattle.m88_serving.specs.Served.{transaction_line}
use Rattle.m88_serving.proofs.serving.serve.Goals as goal

pub returns-in_ok-push_access-clause-text : goal.returns-in_ok-push_access-clause-text
returns-in_ok-push_access-clause-text c =
    let index = c.args.index in
    c.in_ok-push_access.ensures
    ∙ ap (λ (line : List ℕ). c.args.text.now.items ++ line)
    (its_line index (triple_at index c.args.ctrl.now) _ c.in-Some.served (sym c.serve_triple.ensures.access ∙ c.in-Some.is)
    ∙ ap (transaction_line index (triple_at index c.args.ctrl.now)) c.prepare.ensures.bus)
