-- What is told of the run answers the source, whose image holds the program, and so does the line that refuses it.
use Rattle.m88_asm.proofs.Laws.{accepted_source, holds_by_image}
use Rattle.m88_asm.specs.Held.{HoldsUnit}
use Rattle.m88_commands.specs.Answer.Paging.{PagesTo}
use Rattle.m88_commands.specs.Command.{page}
use Rattle.m88_session.specs.Settings.{settings_in}
use Rattle.m88_commands.proofs.OneText.Paged.{one_count}
use Rattle.m88_commands.proofs.Refusing.{refused_reply}
use Rattle.m88_commands.proofs.commands.paging.page_source.Goals as goal

pub returns-in-Err : goal.returns-in-Err
returns-in-Err c =
    refused_reply (page c.args.frames (settings_in c.args.settings.now)) c.args.source.now c.in-Err.refusal c.refuse.result
    (rw c.in-Err.is at c.in_ok-image.ensures) c.refuse.ensures

pub returns : goal.returns
returns c =
    let s = settings_in c.args.settings.now in
    let p = c.page_run.ensures.program in
    let holds : HoldsUnit c.args.source.now c.in-Ok.image = rw c.in-Ok.is at c.in_ok-image.ensures in
    let comes : PagesTo c.args.source.now c.args.frames s c.in-Ok-page_run.paged =
    holds_by_image c.args.source.now c.in-Ok.image p.0 _ holds p.1 (λ q is mode.
    let run = c.in-Ok-page_run.ensures.run q is mode in (run.outcome tt, run.counts)) in
    rw c.accept.ensures (record {
      accepted = accepted_source c.args.source.now c.in-Ok.image holds;
      output = record {
        paged = c.in-Ok-page_run.paged;
        comes = comes;
        alone = λ t other same also. one_count c.args.source.now c.args.frames s t other c.in-Ok-page_run.paged same also comes;
        is_text = c.in_ok-text.ensures;
      };
    })
