-- Some events were made and told, each before the run was over, and the breakpoints stayed.
use Rattle.std.proofs.Common.{◌≡◌}
use Rattle.m88_session.proofs.Tracing.{IsTracing}
use Rattle.m88_session.specs.Session.{Session}
use Rattle.m88_session.specs.Inside.SessionKept.{StandsAt}
use Rattle.m88_session.proofs.monitor.Monitor.trace.Given as goal
use Rattle.m88_event.specs.Timeline.{Run}

abbrev pub invariant-loop-made : goal.invariant-loop-made
invariant-loop-made g l = record {
  traces : (c : Run) (s : Session) → StandsAt c s l.initial.self
      → IsTracing c s l.count l._made (g.W.Watch.seen l.initial.watch) (g.W.Watch.seen l.watch) l.initial.text.items l.text.items l.self;
  kept : l.self.breakpoints ≡ l.initial.self.breakpoints;
}
