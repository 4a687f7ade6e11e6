-- The line of one page more, and the end.
use Rattle.std.proofs.Common.{◌≡◌, ◌∙◌, ◌++◌, ℕ, List, ap, append_assoc, arith, sym}
use Rattle.std.proofs.lemmas.Result.{err_from_is_err_and}
use Rattle.m88_base.specs.Pages.{page_count}
use Rattle.m88_mem.specs.DataBus.{absent_of}
use Rattle.m88_entries.proofs.Lefts.{pages_next}
use Rattle.m88_entries.specs.Left.{left_page, left_pages}
use Rattle.m88_entries.proofs.left.push_pages.Goals as goal

pub loop-page-preserved : goal.loop-page-preserved
loop-page-preserved c =
    let line : List ℕ = left_page (absent_of c.args.memory.now) c.loop-page.page in
    c.in_ok-push_page.ensures ∙ ap (λ (t : List ℕ). t ++ line) c.loop-page.invariant
    ∙ append_assoc c.args.text.now.items (left_pages (absent_of c.args.memory.now) c.loop-page.page) line
    ∙ ap (λ (t : List ℕ). c.args.text.now.items ++ t) (sym (pages_next (absent_of c.args.memory.now) c.loop-page.page))

pub returns : goal.returns
returns c =
    let end : c.loop-page.page ≡ page_count = omega arith in
    c.loop-page.invariant ∙ ap (λ (page : ℕ). c.args.text.now.items ++ left_pages (absent_of c.args.memory.now) page) end

pub returns-in_err-push_page : goal.returns-in_err-push_page
returns-in_err-push_page c =
    let p = err_from_is_err_and c.from_residual.result c.from_residual.ensures.1 in
    rw p.1 tt
