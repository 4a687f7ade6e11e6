-- The report is that of what the run comes to.
use Rattle.std.proofs.Common.{ap, refl, rules, ◌∙◌}
use Rattle.m88_report.specs.Report.{report_of}
use Rattle.m88_session.specs.Settings.{settings_in}
use Rattle.m88_commands.proofs.Reporting.{front_of_run}
use Rattle.m88_session.proofs.Laws.{goes_none}
use Rattle.m88_commands.proofs.commands.running.run_image.Goals as goal

pub returns-in_err-outcome : goal.returns-in_err-outcome
returns-in_err-outcome g c =
    goes_none c.from_residual.result (search rules) c.outcome_of.ensures.is_image c.in_err-outcome.ensures.front

pub returns-in_err-text : goal.returns-in_err-text
returns-in_err-text g c =
    goes_none c.from_residual-in_err-text.result (search rules) c.outcome_of.ensures.is_image (λ p of mode.
    front_of_run p (settings_in c.args.settings.now) (g.W.Watch.seen c.args.watch.now) (g.W.Watch.seen c.outcome_of.new.watch)
    (c.in_ok-outcome.ensures.made p of mode).1)

pub returns : goal.returns
returns g c = rw c.accept.ensures (record {
  is_image = c.outcome_of.ensures.is_image;
  made = λ p of mode.
      let own = c.in_ok-outcome.ensures.made p of mode in (
        record {
          outcome = own.0.outcome;
          is_outcome = own.0.is_outcome;
          is_told = (refl, c.in_ok-text.ensures ∙ ap report_of own.0.is_told);
        },
        own.1,
      );
  front = tt;
})
