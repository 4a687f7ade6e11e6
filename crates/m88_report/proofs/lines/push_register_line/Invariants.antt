-- The registers so far are written.
use Rattle.std.proofs.Common.{◌≡◌, ◌++◌, flat_map, take}
use Rattle.m88_report.specs.Report.{register_text}
use Rattle.m88_report.proofs.lines.push_register_line.Given as goal

abbrev pub invariant-loop-register : goal.invariant-loop-register
invariant-loop-register l = l.text.items ≡ l.initial.text.items ++ flat_map register_text (take l.register-index l.registers)
