-- The bytes so far and those of the digits that are left are those of all digits.
use Rattle.std.proofs.Common.{◌≡◌, length}
use Rattle.m88_link.specs.Inside.Rows.{bytes_behind}
use Rattle.m88_link.proofs.row_text.push_bytes.Given as goal

abbrev pub invariant-loop-rest : goal.invariant-loop-rest
invariant-loop-rest l = bytes_behind l.bytes.items l.rest ≡ bytes_behind l.initial.bytes.items l.digits

abbrev pub decreases-loop-rest : goal.decreases-loop-rest
decreases-loop-rest l = length l.rest
