-- The image that the records write holds their program, and the report of its run answers them.
use Rattle.std.proofs.Common.{subst}
use Rattle.m88_srec.specs.Refused.{AreRecordsOf}
use Rattle.m88_commands.specs.Command.{exec}
use Rattle.m88_session.specs.Settings.{settings_in}
use Rattle.m88_commands.proofs.Refusing.{refused_shown}
use Rattle.m88_commands.proofs.Reporting.{run_answers, runs_records}
use Rattle.m88_commands.proofs.commands.running.run_records.Goals as goal

pub returns-in-Err : goal.returns-in-Err
returns-in-Err g c = λ text are.
    let first = subst (λ records. AreRecordsOf records text) c.in-Err.is are in
    refused_shown g.W.Watch.seen c.args.watch.now (exec (settings_in c.args.settings.now)) text c.in-Err.refusal c.refuse.result first
    c.refuse.ensures

pub returns-in-Ok : goal.returns-in-Ok
returns-in-Ok g c = λ text are.
    let written = subst (λ records. AreRecordsOf records text) c.in-Ok.is are in
    run_answers _ _ _ _ _ (runs_records text (settings_in c.args.settings.now) c.in-Ok.image written c.run_image.ensures.is_image)
    g.W.Watch.seen c.args.watch.now c.run_image.new.watch c.run_image.result c.run_image.ensures
