-- None of the page's words so far differs.
use Rattle.std.proofs.Common.{◌≡◌, ◌+◌, ◌-◌, ◌*◌}
use Rattle.m88_isa.specs.Held.{first_from}
use Rattle.m88_mem.specs.DataBus.{bus_of}
use Rattle.m88_handler.specs.Judging.{word_differs}
use Rattle.m88_handler.proofs.judging.word_in_page_that_differs.Given as goal

abbrev pub invariant-loop-offset : goal.invariant-loop-offset
invariant-loop-offset l = first_from (1024 * l.page + l.offset) (1024 - l.offset) (word_differs (bus_of l.left) (bus_of l.wanted))
    ≡ first_from (1024 * l.page) 1024 (word_differs (bus_of l.left) (bus_of l.wanted))
