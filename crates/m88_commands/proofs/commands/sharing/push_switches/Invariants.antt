-- The switches so far are written.
use Rattle.std.proofs.Common.{◌≡◌, ◌++◌, flat_map, take}
use Rattle.std.specs.List.{enumerate_from}
use Rattle.m88_commands.specs.Answer.Sharing.{switch_lines}
use Rattle.m88_commands.proofs.commands.sharing.push_switches.Given as goal

abbrev pub invariant-loop-index : goal.invariant-loop-index
invariant-loop-index l = l.text.items ≡ l.initial.text.items ++ flat_map switch_lines (enumerate_from 1 (take l.index l.switches))
