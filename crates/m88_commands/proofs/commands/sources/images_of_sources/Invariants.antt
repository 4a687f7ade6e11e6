-- The images so far hold the sources so far.
use Rattle.std.proofs.Common.{take}
use Rattle.m88_commands.specs.Inside.Placing.{all_placed}
use Rattle.m88_asm.specs.Held.{HoldEach}
use Rattle.m88_commands.proofs.commands.sources.images_of_sources.Given as goal

abbrev pub invariant-loop-placed : goal.invariant-loop-placed
invariant-loop-placed l = HoldEach (all_placed (take l.placed-index l.placed-items)) l.images.items
