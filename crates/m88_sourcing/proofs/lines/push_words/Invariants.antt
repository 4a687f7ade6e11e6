-- With the words that are left it is the line.
use Rattle.std.proofs.Common.{◌≡◌, ◌-◌, ◌*◌, ◌++◌, drop}
use Rattle.m88_sourcing.specs.Data.{words_line}
use Rattle.m88_sourcing.proofs.WordLines.{further}
use Rattle.m88_sourcing.proofs.lines.push_words.Given as goal

abbrev pub invariant-loop-index : goal.invariant-loop-index
invariant-loop-index l =
    l.text.items ++ further (l.count - l.index) (drop (4 * l.index) l.bytes) ≡ l.fn.text.items ++ words_line l.count l.bytes
