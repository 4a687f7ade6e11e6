-- The words so far are written.
use Rattle.std.proofs.Common.{◌≡◌, ◌++◌, flat_map, take}
use Rattle.m88_report.specs.Report.{word_line}
use Rattle.m88_report.proofs.lines.push_words.Given as goal

abbrev pub invariant-loop-address : goal.invariant-loop-address
invariant-loop-address l = l.text.items ≡ l.initial.text.items ++ flat_map word_line (take l.address-index l.words)
