-- The registers so far are written.
use Rattle.std.proofs.Common.{◌≡◌, ◌++◌}
use Rattle.m88_base.specs.RegisterSet.{registers_in}
use Rattle.m88_serving.specs.Served.{registers_below}
use Rattle.m88_serving.proofs.text.push_registers.Given as goal

abbrev pub invariant-loop-r : goal.invariant-loop-r
invariant-loop-r l = l.text.items ≡ l.initial.text.items ++ registers_below (registers_in l.set) l.values l.r
