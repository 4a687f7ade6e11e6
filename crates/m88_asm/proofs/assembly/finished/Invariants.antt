-- What the loop of `finished` keeps.
use Rattle.std.proofs.Common.{◌≡◌}
use Rattle.std.specs.List.{All}
use Rattle.m88_link.specs.Sound.{HasRoom}
use Rattle.m88_asm.proofs.assembly.finished.Given as goal

-- the sections so far, each with room
abbrev pub invariant-loop-section : goal.invariant-loop-section
invariant-loop-section l = (l.out.items ≡ l.yielded) × All HasRoom l.out.items
