-- The zeros so far.
use Rattle.std.proofs.Common.{◌≡◌, ◌++◌, replicate}
use Rattle.m88_pager.proofs.original.append_zeros.Given as goal

abbrev pub invariant-loop : goal.invariant-loop
invariant-loop l = l.bytes.items ≡ l.initial.bytes.items ++ replicate l.counter 0
