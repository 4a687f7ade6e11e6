-- It is appended as it is.
use Rattle.std.proofs.Common.{ℕ, List, ap, ◌++◌, ◌∙◌}
use Rattle.m88_trace.proofs.Writing.{ok_items, ok_on}
use Rattle.m88_trace.proofs.parts.push_open.Goals as goal

pub returns : goal.returns
returns c =
    ok_on c.extend_from_slice.result (ok_items c.extend_from_slice.result _ _ _ c.extend_from_slice.ensures.items)
    (λ e. e ∙ ap (λ (xs : List ℕ). c.args.text.now.items ++ xs) c.open_access.ensures)
