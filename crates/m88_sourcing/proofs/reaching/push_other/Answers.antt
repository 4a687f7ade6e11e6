-- The address is where the program goes on, or is the last.
use Rattle.std.proofs.Common.{inl, inr}
use Rattle.std.proofs.lemmas.Result.{on_ok_weaker}
use Rattle.m88_sourcing.proofs.Walking.{with_one}
use Rattle.m88_sourcing.proofs.reaching.push_other.Goals as goal

pub returns-clause-keeps : goal.returns-clause-keeps
returns-clause-keeps c =
    on_ok_weaker c.push_if.result (λ e b there. (with_one _ _ _ b e).1 (inl there)) c.push_if.ensures

pub returns-clause-has : goal.returns-clause-has
returns-clause-has c =
    on_ok_weaker c.push_if.result (λ e b is. inl ((with_one _ _ _ b e).1 (inr is))) c.push_if.ensures

pub returns-clause-only : goal.returns-clause-only
returns-clause-only c = on_ok_weaker c.push_if.result (λ e b there. (with_one _ _ _ b e).0 there) c.push_if.ensures
