-- Why a handler failed.
use Rattle.std.proofs.lemmas.Result.{on_ok_weaker}
use Rattle.m88_entries.proofs.Lefts.{failed}
use Rattle.m88_entries.proofs.text.push_remark.Goals as goal

pub returns-in_ok-push_cause-in-Fails : goal.returns-in_ok-push_cause-in-Fails
returns-in_ok-push_cause-in-Fails c =
    on_ok_weaker c.push_named.result
    (λ e. failed c.args.text.now.items _ _ _ c.args.remark.now c.in-Fails.cause c.in-Fails.at
    c.in_ok-extend_from_slice-in-Fails.ensures.items c.in_ok-push_cause-in-Fails.ensures e c.in-Fails.is)
    c.push_named.ensures
