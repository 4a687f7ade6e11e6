-- The line, or none.
use Rattle.std.proofs.Common.{sym, ◌∙◌, true≢false, IsTrue}
use Rattle.std.specs.FinSet.{contains}
use Rattle.m88_disasm.specs.Listing.{start_line}
use Rattle.m88_sourcing.proofs.Appending.{none_line, one_line}
use Rattle.m88_sourcing.proofs.lines.push_start_number.Goals as goal

pub returns-in_ok-push_start : goal.returns-in_ok-push_start
returns-in_ok-push_start c =
    one_line (¬ IsTrue (contains c.args.code.now c.args.start)) (start_line c.args.start) _ _
    (λ h. true≢false (sym h ∙ (sym c.contains.ensures ∙ c.if-not-contains.true))) c.in_ok-push_start.ensures

pub returns-else-not-contains : goal.returns-else-not-contains
returns-else-not-contains c =
    none_line (¬ IsTrue (contains c.args.code.now c.args.start)) (start_line c.args.start) _
    (λ none. none (sym c.contains.ensures ∙ c.if-not-contains.false))
