-- The faults so far are written.
use Rattle.std.proofs.Common.{◌≡◌, ◌++◌, flat_map, take}
use Rattle.std.specs.List.{enumerate_from}
use Rattle.m88_report.specs.Report.{fault_lines}
use Rattle.m88_report.proofs.writer.push_faults.Given as goal

abbrev pub invariant-loop-index : goal.invariant-loop-index
invariant-loop-index l = l.text.items ≡ l.initial.text.items ++ flat_map fault_lines (enumerate_from 1 (take l.index l.records))
