-- The first of the pages that are left differs or doesn't, or none is left.
use Rattle.std.proofs.Common.{◌-◌, ◌+◌, ◌∙◌, arith, sym}
use Rattle.m88_base.specs.Pages.{page_count}
use Rattle.m88_handler.proofs.Searching.{fails, none_left, passes}
use Rattle.m88_handler.specs.Judging.{page_differs}
use Rattle.m88_mem.specs.DataBus.{absent_of}
use Rattle.m88_handler.proofs.judging.page_that_differs.Goals as goal

pub returns-then-page_differs-clause-number : goal.returns-then-page_differs-clause-number
returns-then-page_differs-clause-number c =
    sym (passes c.loop-page.page (page_count - c.loop-page.page)
    (page_differs (absent_of c.args.left.now) (absent_of c.args.wanted.now)) (omega arith)
    (sym c.page_differs.ensures ∙ c.if-page_differs.true)) ∙ c.loop-page.invariant

pub loop-page-preserved : goal.loop-page-preserved
loop-page-preserved c =
    sym (fails c.loop-page.page (page_count - c.loop-page.page) (page_count - (c.loop-page.page + 1))
    (page_differs (absent_of c.args.left.now) (absent_of c.args.wanted.now)) (omega arith)
    (sym c.page_differs.ensures ∙ c.if-page_differs.false)) ∙ c.loop-page.invariant

pub returns-clause-number : goal.returns-clause-number
returns-clause-number c =
    sym (none_left c.loop-page.page (page_count - c.loop-page.page)
    (page_differs (absent_of c.args.left.now) (absent_of c.args.wanted.now)) (omega arith)) ∙ c.loop-page.invariant
