-- What an event did, by what is told of it in brief.
use Rattle.std.specs.Prelude.{Option, Some, None, ◌-◌, length, slice_get}
use Rattle.m88_event.specs.declared.happened.End.{End}
use Rattle.m88_event.specs.declared.happened.Happened.{Happened}
use Rattle.m88_event.specs.declared.happened.Happened.TheVariants as happened
use Rattle.m88_event.specs.declared.record.Record.{Record}
use Rattle.m88_board.specs.Board.{BoardView}
use Rattle.m88_board.specs.declared.brief.Brief.{Brief}
use Rattle.m88_board.specs.declared.brief.Brief.TheVariants as brief

-- a data fault, by its record
abbrev pub by_fault : Option Record → Happened
by_fault (Some fault) = happened.Faulted fault
by_fault None = happened.Idle

-- the end of the program, by how it ended
abbrev pub by_end : Option End → Happened
by_end (Some end) = happened.Ended end
by_end None = happened.Idle

-- the record of a data fault is the last one of the board behind the event, if there is one, and how the program ended
-- is what that board tells
abbrev pub happened_of : Brief → BoardView → Happened
happened_of brief.Issued b = happened.Issued
happened_of brief.Bubble b = happened.Bubble
happened_of (brief.Stalled why) b = happened.Stalled why
happened_of brief.Answered b = happened.Answered
happened_of brief.Faulted b = by_fault (slice_get b.records (length b.records - 1))
happened_of brief.Evicted b = happened.Evicted
happened_of brief.Idle b = happened.Idle
happened_of (brief.Served byte) b = happened.Served byte
happened_of brief.Ended b = by_end b.ended
