-- Some commands are carried out, what they wrote is in the text, and there is room for the breakpoints of the others.
use Rattle.std.proofs.Common.{◌+◌, ◌≤◌, drop, length}
use Rattle.std.specs.Prelude.{count_by}
use Rattle.m88_session.proofs.Carrying.{IsCarrying}
use Rattle.m88_session.specs.Running.{OfImage}
use Rattle.m88_session.specs.Settings.{run_by, settings_in}
use Rattle.m88_session.specs.Script.{is_break, most_breaks}
use Rattle.m88_session.specs.Session.{opening_session}
use Rattle.m88_session.proofs.monitor.carry_out.Given as goal

abbrev pub invariant-loop-command : goal.invariant-loop-command
invariant-loop-command g l = record {
  carrying : OfImage l.image (settings_in l.settings) (λ p. IsCarrying (run_by p (settings_in l.settings)) l.commands opening_session
      l.command-index (g.W.Watch.seen l.initial.watch) (g.W.Watch.seen l.watch) l.text.items l.monitor);
  room : length l.monitor.breakpoints.items + count_by is_break (drop l.command-index l.commands) ≤ most_breaks;
}
