-- No two of the sections so far have one address, and the last byte stands just below the end so far.
use Rattle.std.proofs.Common.{take}
use Rattle.m88_link.proofs.Swept.{IsSwept}
use Rattle.m88_link.proofs.overlap.first_double.Given as goal

abbrev pub invariant-loop-extent : goal.invariant-loop-extent
invariant-loop-extent l = IsSwept l.reach (take l.extent-index l.extents)
