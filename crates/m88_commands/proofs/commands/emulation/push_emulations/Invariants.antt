-- The emulations so far are written.
use Rattle.std.proofs.Common.{◌≡◌, ◌++◌, flat_map, take}
use Rattle.std.specs.List.{enumerate_from}
use Rattle.m88_commands.specs.Answer.Emulation.{emulation_line}
use Rattle.m88_commands.proofs.commands.emulation.push_emulations.Given as goal

abbrev pub invariant-loop-index : goal.invariant-loop-index
invariant-loop-index l = l.text.items ≡ l.initial.text.items ++ flat_map emulation_line (enumerate_from 1 (take l.index l.emulated))
