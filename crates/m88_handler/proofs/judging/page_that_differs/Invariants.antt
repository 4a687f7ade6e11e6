-- None of the pages so far differs.
use Rattle.std.proofs.Common.{◌≡◌, ◌-◌}
use Rattle.m88_base.specs.Pages.{page_count}
use Rattle.m88_isa.specs.Held.{first_from}
use Rattle.m88_mem.specs.DataBus.{absent_of}
use Rattle.m88_handler.specs.Judging.{page_differs}
use Rattle.m88_handler.proofs.judging.page_that_differs.Given as goal

abbrev pub invariant-loop-page : goal.invariant-loop-page
invariant-loop-page l = first_from l.page (page_count - l.page) (page_differs (absent_of l.left) (absent_of l.wanted))
    ≡ first_from 0 page_count (page_differs (absent_of l.left) (absent_of l.wanted))
