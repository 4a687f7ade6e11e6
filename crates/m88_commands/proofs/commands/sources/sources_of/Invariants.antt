-- The sources so far stand at the front of the input, and the rest behind them; fewer than eight are no more lines than
-- can be counted.
use Rattle.std.proofs.Common.{◌≤◌, length, ◌-◌, ◌*◌, ◌<◌}
use Rattle.std.specs.List.{All}
use Rattle.m88_commands.specs.Limits.{most_input}
use Rattle.m88_commands.specs.Inside.Placing.{IsShort, all_placed}
use Rattle.m88_commands.specs.Sources.{most_sources}
use Rattle.m88_asm.proofs.Laws.{StandBefore}
use Rattle.m88_commands.proofs.commands.sources.sources_of.Given as goal

abbrev pub invariant-loop-parted : goal.invariant-loop-parted
invariant-loop-parted l =
    StandBefore l.fn.input (all_placed l.sources.items) l.lines l.rest
    × (length l.sources.items < most_sources)
    × (l.lines ≤ length l.sources.items * most_input)
    × (length l.rest ≤ most_input)
    × All IsShort l.sources.items

abbrev pub decreases-loop-parted : goal.decreases-loop-parted
decreases-loop-parted l = most_sources - length l.sources.items
