-- The entries so far are all empty.
use Rattle.std.proofs.Common.{◌≡◌, None, replicate}
use Rattle.m88_mem.proofs.frames.FrameTable.new.Given as goal

abbrev pub invariant-loop : goal.invariant-loop
invariant-loop l = l.frames.items ≡ replicate l.counter None
