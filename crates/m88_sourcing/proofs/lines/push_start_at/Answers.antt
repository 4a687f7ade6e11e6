-- The mark, or none.
use Rattle.m88_sourcing.proofs.Appending.{none_line, one_line}
use Rattle.m88_sourcing.proofs.lines.push_start_at.Goals as goal

pub returns-in_ok-push_start_label : goal.returns-in_ok-push_start_label
returns-in_ok-push_start_label c =
    one_line _ _ _ _ c.if-at-start.true c.in_ok-push_start_label.ensures

pub returns-else-at-start : goal.returns-else-at-start
returns-else-at-start c =
    none_line _ _ _ c.if-at-start.false
