-- So far all are as the first, up to the beginning of a word.
use Rattle.std.proofs.Common.{◌≡◌, ◌+◌, ◌-◌, ◌%◌, ◌<◌, ℕ, length}
use Rattle.std.specs.FinSet.{contains}
use Rattle.m88_sourcing.specs.Inside.Members.{AsAt}
use Rattle.m88_sourcing.proofs.pieces.piece_len.Given as goal

abbrev pub invariant-loop-len : goal.invariant-loop-len
invariant-loop-len l = record {
  some : 0 < l.len;
  whole : (l.at + l.len) % 4 ≡ 0;
  even : (k : ℕ) → k < l.len → AsAt (contains l.code) l.at (l.at + k);
  low : l.len < length l.bytes + 4;
}

abbrev pub decreases-loop-len : goal.decreases-loop-len
decreases-loop-len l = length l.bytes + 4 - l.len
