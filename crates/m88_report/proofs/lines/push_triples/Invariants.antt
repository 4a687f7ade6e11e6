-- The triples so far are written.
use Rattle.std.proofs.Common.{◌≡◌, ◌++◌, flat_map, take}
use Rattle.std.specs.List.{enumerate_from}
use Rattle.m88_report.specs.Report.{triple_line}
use Rattle.m88_report.proofs.lines.push_triples.Given as goal

abbrev pub invariant-loop-number : goal.invariant-loop-number
invariant-loop-number l = l.text.items ≡ l.initial.text.items ++ flat_map triple_line (enumerate_from 0 (take l.number l.triples))
