-- A run of which a watch was shown a front goes on to its end.
use Rattle.std.specs.Prelude.{List, ◌++◌, Option}
use Rattle.m88_isa.specs.Machine.{IsProgram, Program}
use Rattle.m88_event.specs.Run.{moment_after}
use Rattle.m88_event.specs.Timeline.{is_over}
use Rattle.m88_board.specs.Glances.{glances_along}
use Rattle.m88_board.specs.declared.glance.Glance.{Glance}
use Rattle.m88_session.proofs.Laws.{glances_go_on, has_run, no_later}
use Rattle.m88_session.specs.Settings.{Settings, run_by}
use Rattle.m88_commands.specs.Inside.Fronts.{SawFront}
use Rattle.m88_commands.specs.Watching.{ShowsRun}

pub run_goes_on : (p : Program) (s : Settings) (before after : Option (List Glance)) → IsProgram p → (seen : SawFront p s before after)
    → (others : List Glance) × ShowsRun p s (glances_along p (moment_after (run_by p s)) seen.events ++ others)
run_goes_on p s before after is seen =
    let end = has_run (run_by p s) is in
    let on = glances_go_on p (moment_after (run_by p s)) seen.events end.0
    (no_later (λ k. is_over (run_by p s) (moment_after (run_by p s) k)) seen.events end.0 seen.is_running end.1.here) in
    (on.0, record { mode = seen.mode; events = end.0; is_run = end.1; glances_are = on.1 })
