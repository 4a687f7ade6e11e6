-- Some events of the route were made, and it stopped behind none but the last.
use Rattle.std.proofs.Common.{ℕ, Bool, ◌≡◌, ◌≤◌, ◌-◌}
use Rattle.m88_event.specs.Timeline.{Moment, Run}
use Rattle.m88_board.proofs.Walking.{Goes}
use Rattle.m88_board.specs.Inside.Routes.{IsBoundedBy}
use Rattle.m88_board.specs.Kept.{IsKept, most_events}
use Rattle.m88_board.specs.Moves.{IsAt, IsSameRun}
use Rattle.m88_board.proofs.board.Board.follow.Given as goal

abbrev pub invariant-loop-letter : goal.invariant-loop-letter
invariant-loop-letter g l = record {
  begun : IsKept l.initial.self;
  first : l.first ≡ l.initial.self.events;
  counted : l.initial.self.events ≤ l.self.events;
  same : IsSameRun l.initial.self l.self;
  bounded : IsBoundedBy l.route l.initial.self l.self;
  goes : (r : Run) (m : Moment) → IsAt r m l.initial.self
      → Goes l.route r m (l.self.events - l.initial.self.events)
      (g.W.Watch.seen l.initial.watch) (g.W.Watch.seen l.watch) l.self;
}

abbrev pub decreases-loop-letter : goal.decreases-loop-letter
decreases-loop-letter g l = most_events - l.self.events
