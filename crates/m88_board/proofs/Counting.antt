-- A choice that is made leaves the count of events as it was: the event is counted afterwards.
use Rattle.std.specs.Prelude.{[], ◌≡◌}
use Rattle.std.proofs.Common.{refl, ap, ◌∙◌}
use Rattle.m88_event.specs.Choice.{Choice, evicts, faults, finishes, holds, idles, issues, passes, replies, serves}
use Rattle.m88_event.specs.Local.{Local, move_by}
use Rattle.m88_event.specs.declared.record.Record.{Record}
use Rattle.m88_board.specs.Board.{BoardView, local_of}
use Rattle.m88_board.specs.Inside.Events.{Does}

-- what is seen of the count stays
moved_events : (choice : Choice) (fault : Record) (l : Local) → (move_by choice fault l).events ≡ l.events
moved_events idles fault l = refl
moved_events _ fault l = refl

-- and so does the count
pub does_events : (choice : Choice) (fault : Record) (old new : BoardView) → Does choice fault old new →
    new.events ≡ old.events
unfolding local_of
does_events choice fault old new does =
    ap (λ (l : Local). l.events) does.moved ∙ moved_events choice fault (local_of old)

-- a record, where a choice needs none
pub no_record : Record
no_record = record { event = 0; epsr = 0; sxip = 0; snip = 0; sfip = 0; ssbr = 0; triples = [] }
