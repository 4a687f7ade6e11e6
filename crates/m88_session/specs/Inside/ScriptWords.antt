-- Commands of the monitor without an operand, and whether there is room for a command.
use Rattle.std.specs.Prelude.{Bool, List, not, nat_lt, count_by, length, ◌&&◌, ◌||◌}
use Rattle.m88_session.specs.Script.{is_break, most_breaks, most_commands}
use Rattle.m88_session.specs.declared.script.MonitorCommand.{MonitorCommand}
use Rattle.m88_session.specs.declared.script.MonitorCommand.TheVariants.{Step, Go, Break, Regs, Pipe, Memory, Drain, Trace}

-- the line of such a command is its name alone
abbrev pub IsBare : MonitorCommand → Type 0
IsBare (Step n) = ⊥
IsBare Go = Unit {0}
IsBare (Break address) = ⊥
IsBare Regs = Unit {0}
IsBare Pipe = Unit {0}
IsBare (Memory address count) = ⊥
IsBare Drain = Unit {0}
IsBare (Trace n) = ⊥

-- behind the commands of a script there is room for another one
abbrev pub has_room : List MonitorCommand → MonitorCommand → Bool
has_room commands command =
    nat_lt (length commands) most_commands
    && (not (is_break command) || nat_lt (count_by is_break commands) most_breaks)
