-- So many words stand there, and those that stand behind them.
use Rattle.std.proofs.Common.{◌≡◌, ◌+◌, ◌-◌, ◌*◌, ◌≤◌, drop, length}
use Rattle.m88_sourcing.specs.Data.{most_in_line, words_here}
use Rattle.m88_sourcing.specs.Inside.Finding.{IsFinding, SameBytes}
use Rattle.m88_sourcing.proofs.item.Finding.words_at.Given as goal

abbrev pub invariant-loop-count : goal.invariant-loop-count
invariant-loop-count l = record {
  finding : IsFinding l.self;
  same : SameBytes l.fn.self l.self;
  within : l.place + 4 * l.count ≤ length l.fn.self.bytes.now;
  counted : words_here most_in_line (l.fn.self.at + l.place) (drop l.place l.fn.self.bytes.now)
      ≡ l.count + words_here (8 - l.count) (l.fn.self.at + (l.place + 4 * l.count)) (drop (l.place + 4 * l.count) l.fn.self.bytes.now);
}
