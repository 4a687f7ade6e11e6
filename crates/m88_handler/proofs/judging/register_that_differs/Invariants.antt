-- None of the registers so far differs.
use Rattle.std.proofs.Common.{◌≡◌, ◌-◌}
use Rattle.m88_isa.specs.Held.{first_from}
use Rattle.m88_handler.specs.Judging.{register_differs}
use Rattle.m88_handler.proofs.judging.register_that_differs.Given as goal

abbrev pub invariant-loop-r : goal.invariant-loop-r
invariant-loop-r l = first_from l.r (32 - l.r) (register_differs l.left l.wanted) ≡ first_from 1 31 (register_differs l.left l.wanted)
