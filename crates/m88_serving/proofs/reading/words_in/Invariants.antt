-- The words that were read, with those of the lines that are left, are what the lines tell.
use Rattle.std.proofs.Common.{◌≡◌, ◌+◌, ◌≤◌, ◌%◌, All, length}
use Rattle.m88_base.specs.Lines.{lines_of}
use Rattle.m88_serving.specs.Cases.{words_told}
use Rattle.m88_serving.specs.Inside.Replies.{words_behind}
use Rattle.m88_serving.proofs.reading.words_in.Given as goal

abbrev pub invariant-loop-rest : goal.invariant-loop-rest
invariant-loop-rest l = record {
  same : words_behind l.words.items (words_told l.number (lines_of l.rest)) ≡ words_told 5 (lines_of l.lines);
  each : All (λ word. word.0 % 4 ≡ 0) l.words.items;
  few : l.number + length l.rest ≤ 5 + length l.lines;
}

abbrev pub decreases-loop-rest : goal.decreases-loop-rest
decreases-loop-rest l = length l.rest
