-- The board stands at the first moment of the program that the image holds, and its run is that of the program.
use Rattle.std.proofs.Common.{refl, rules, subst}
use Rattle.m88_session.specs.Settings.{run_by, settings_in}
use Rattle.m88_commands.proofs.Reporting.{no_front, saw_run}
use Rattle.m88_session.proofs.Laws.{goes_none}
use Rattle.m88_commands.proofs.commands.running.outcome_of.Goals as goal

pub returns-in_err-board : goal.returns-in_err-board
returns-in_err-board g c =
    goes_none c.from_residual.result (search rules) c.new.ensures.is_image (λ p of mode.
    no_front p (settings_in c.args.settings.now) (g.W.Watch.seen c.args.watch.now) mode)

pub returns-in_err-outcome : goal.returns-in_err-outcome
returns-in_err-outcome g c =
    let s = settings_in c.args.settings.now in
    goes_none c.from_residual-in_err-outcome.result (search rules) c.new.ensures.is_image (λ p of mode.
    let broke = c.in_err-outcome.ensures.err (run_by p s) refl (c.in_ok-board.ensures.at p s.schedule of mode) in
    record { mode = mode; events = broke.0; is_running = broke.1; saw = broke.2 })

pub returns : goal.returns
returns g c =
    let s = settings_in c.args.settings.now in
    record {
      is_image = c.new.ensures.is_image;
      made = λ p of mode.
          let at = c.in_ok-board.ensures.at p s.schedule of mode in
          let is = c.in_ok-outcome.ensures.outcome (run_by p s) refl at in (
            record { outcome = c.in_ok-outcome.outcome; is_outcome = is; is_told = refl },
            saw_run p s (g.W.Watch.seen c.args.watch.now) (g.W.Watch.seen c.run.new.watch) c.in_ok-outcome.outcome mode is
                (c.in_ok-outcome.ensures.watched (run_by p s) refl at),
          );
      front = tt;
    }
