-- The reports so far are written.
use Rattle.std.proofs.Common.{◌≡◌, ◌++◌, flat_map, take}
use Rattle.std.specs.List.{enumerate_from}
use Rattle.m88_commands.specs.Answer.Sharing.{numbered_report}
use Rattle.m88_commands.proofs.commands.sharing.push_reports.Given as goal

abbrev pub invariant-loop-index : goal.invariant-loop-index
invariant-loop-index l = l.text.items ≡ l.initial.text.items ++ flat_map numbered_report (enumerate_from 1 (take l.index l.outcomes))
