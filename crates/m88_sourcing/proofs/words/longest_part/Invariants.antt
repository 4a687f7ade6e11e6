-- No part is longer than there are addresses.
use Rattle.std.proofs.Common.{◌≤◌, ◌^◌}
use Rattle.m88_sourcing.proofs.words.longest_part.Given as goal

abbrev pub invariant-loop-index : goal.invariant-loop-index
invariant-loop-index l = l.longest.1 ≤ 2 ^ 32
