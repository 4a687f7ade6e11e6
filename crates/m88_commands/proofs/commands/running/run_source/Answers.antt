-- The image holds the program of the source, and the report of its run answers the source.
use Rattle.m88_asm.specs.Held.{HoldsUnit}
use Rattle.m88_commands.specs.Command.{run}
use Rattle.m88_session.specs.Settings.{settings_in}
use Rattle.m88_commands.proofs.Refusing.{refused_shown}
use Rattle.m88_commands.proofs.Reporting.{run_answers, runs_source}
use Rattle.m88_commands.proofs.commands.running.run_source.Goals as goal

pub returns-in-Err : goal.returns-in-Err
returns-in-Err g c =
    refused_shown g.W.Watch.seen c.args.watch.now (run (settings_in c.args.settings.now)) c.args.source.now c.in-Err.refusal
    c.refuse.result (rw c.in-Err.is at c.in_ok-image.ensures) c.refuse.ensures

pub returns-in-Ok : goal.returns-in-Ok
returns-in-Ok g c =
    let holds : HoldsUnit c.args.source.now c.in-Ok.image = rw c.in-Ok.is at c.in_ok-image.ensures in
    run_answers _ _ _ _ _ (runs_source c.args.source.now (settings_in c.args.settings.now) c.in-Ok.image holds c.run_image.ensures.is_image)
    g.W.Watch.seen c.args.watch.now c.run_image.new.watch c.run_image.result c.run_image.ensures
