-- The label, or none.
use Rattle.std.proofs.Common.{sym, ◌∙◌, true≢false}
use Rattle.m88_sourcing.proofs.Appending.{none_line, one_line}
use Rattle.m88_sourcing.proofs.lines.push_label_at.Goals as goal

pub returns-in_ok-push_label : goal.returns-in_ok-push_label
returns-in_ok-push_label c =
    one_line _ _ _ _ c.if-has_label.true c.in_ok-push_label.ensures

pub returns-else-has_label : goal.returns-else-has_label
returns-else-has_label c =
    none_line _ _ _ (λ h. true≢false (sym h ∙ c.if-has_label.false))
