-- The registers that were read, with those of the lines that are left, are what the lines tell.
use Rattle.std.proofs.Common.{◌≡◌, ◌+◌, ◌≤◌, ◌<◌, All, length}
use Rattle.m88_base.specs.Lines.{lines_of}
use Rattle.m88_entries.specs.Inside.Parts.{words_behind}
use Rattle.m88_entries.specs.Told.{registers_told}
use Rattle.m88_entries.proofs.registers.registers_told.Given as goal

abbrev pub invariant-loop-rest : goal.invariant-loop-rest
invariant-loop-rest l = record {
  same : words_behind l.words.items (registers_told l.number (lines_of l.rest)) ≡ registers_told l.first (lines_of l.lines);
  each : All (λ word. (0 < word.0) × (word.0 < 32)) l.words.items;
  few : l.number + length l.rest ≤ l.first + length l.lines;
}

abbrev pub decreases-loop-rest : goal.decreases-loop-rest
decreases-loop-rest l = length l.rest
