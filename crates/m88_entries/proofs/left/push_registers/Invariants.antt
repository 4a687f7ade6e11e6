-- The registers so far are written.
use Rattle.std.proofs.Common.{◌≡◌, ◌++◌}
use Rattle.m88_entries.specs.Left.{is_shown}
use Rattle.m88_serving.specs.Served.{registers_below}
use Rattle.m88_entries.proofs.left.push_registers.Given as goal

abbrev pub invariant-loop-r : goal.invariant-loop-r
invariant-loop-r l = l.text.items ≡ l.initial.text.items ++ registers_below (is_shown l.ssbr l.found l.left) l.left l.r
