-- So far none has a label, up to the beginning of a word.
use Rattle.std.proofs.Common.{◌≡◌, ◌+◌, ◌-◌, ◌%◌, ◌<◌, ℕ, length, IsTrue}
use Rattle.std.specs.FinSet.{contains}
use Rattle.m88_sourcing.proofs.loose.stretch_len.Given as goal

abbrev pub invariant-loop-len : goal.invariant-loop-len
invariant-loop-len l = record {
  some : 0 < l.len;
  whole : (l.at + l.len) % 4 ≡ 0;
  plain : (k : ℕ) → 0 < k → k < l.len → ¬ IsTrue (contains l.labels (l.at + k));
  low : l.len < length l.bytes + 4;
}

abbrev pub decreases-loop-len : goal.decreases-loop-len
decreases-loop-len l = length l.bytes + 4 - l.len
