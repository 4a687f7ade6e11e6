-- The words of a run without a mode are those of a run with MXM clear.
use Rattle.std.proofs.Common.{◌≡◌, ap, false, refl, rules, subst, sym, ◌∙◌}
use Rattle.m88_session.specs.Settings.{Settings, settings_of}
use Rattle.m88_commands.specs.Words.{SaySettings}
use Rattle.m88_base.specs.Words.{texts}
use Rattle.m88_commands.proofs.NoneRead.{reads_none}
use Rattle.m88_commands.proofs.grammar.plain_settings.Goals as goal

pub returns-in_err-settings : goal.returns-in_err-settings
returns-in_err-settings c =
    reads_none c.from_residual.result (search rules) (λ s said. c.in_err-settings.ensures.only s said.say)

pub returns-else-settings : goal.returns-else-settings
returns-else-settings c =
    let own = c.in_ok-settings.settings in
    let clear : own.mxm ≡ false = c.if-settings.false in
    let is = ap (λ b. settings_of own.limit own.absent own.schedule b) clear in
    record {
      found = record {
        say = subst (λ (s : Settings). SaySettings (texts c.args.words.now) s) is c.in_ok-settings.ensures.found;
        clear = refl;
      };
      only = λ s said. sym is ∙ c.in_ok-settings.ensures.only s said.say;
      fit = c.in_ok-settings.ensures.fit;
    }
