-- None of the words of the pages so far differs.
use Rattle.std.proofs.Common.{◌≡◌, ◌-◌, ◌*◌, ◌^◌}
use Rattle.m88_isa.specs.Held.{first_from}
use Rattle.m88_mem.specs.DataBus.{bus_of}
use Rattle.m88_handler.specs.Judging.{word_differs}
use Rattle.m88_handler.proofs.judging.word_that_differs.Given as goal

abbrev pub invariant-loop-page : goal.invariant-loop-page
invariant-loop-page l = first_from (1024 * l.page) (2 ^ 30 - 1024 * l.page) (word_differs (bus_of l.left) (bus_of l.wanted))
    ≡ first_from 0 (2 ^ 30) (word_differs (bus_of l.left) (bus_of l.wanted))
