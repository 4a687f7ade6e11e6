-- The digits of the bytes so far are there.
use Rattle.std.proofs.Common.{◌≡◌, ◌++◌, drop}
use Rattle.m88_listing.specs.Rows.{digits}
use Rattle.m88_listing.proofs.columns.push_digits.Given as goal

abbrev pub invariant-loop-b : goal.invariant-loop-b
invariant-loop-b l = l.text.items ++ digits (drop l.b-index l.bytes) ≡ l.initial.text.items ++ digits l.bytes
