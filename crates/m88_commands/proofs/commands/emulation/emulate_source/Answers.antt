-- What is told of the run answers the source, whose image holds the program, and so does the line that refuses it.
use Rattle.m88_asm.proofs.Laws.{accepted_source, holds_by_image}
use Rattle.m88_asm.specs.Held.{HoldsUnit}
use Rattle.m88_commands.specs.Command.{emu}
use Rattle.m88_session.specs.Settings.{settings_in}
use Rattle.m88_commands.proofs.Refusing.{refused_reply}
use Rattle.m88_commands.proofs.commands.emulation.emulate_source.Goals as goal

pub returns-in-Err : goal.returns-in-Err
returns-in-Err c =
    refused_reply (emu (settings_in c.args.settings.now)) c.args.source.now c.in-Err.refusal c.refuse.result
    (rw c.in-Err.is at c.in_ok-image.ensures) c.refuse.ensures

pub returns : goal.returns
returns c =
    let p = c.run.ensures.program in
    let holds : HoldsUnit c.args.source.now c.in-Ok.image = rw c.in-Ok.is at c.in_ok-image.ensures in
    rw c.accept.ensures (record {
      accepted = accepted_source c.args.source.now c.in-Ok.image holds;
      output = holds_by_image c.args.source.now c.in-Ok.image p.0 _ holds p.1
          (λ q is mode. (c.in_ok-outcome.outcome, c.in_ok-outcome.ensures.outcome q is mode, c.in_ok-text.ensures));
    })
