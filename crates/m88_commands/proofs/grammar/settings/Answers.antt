-- The words say the limit that is read of them, and behind it what is read of the others.
use Rattle.std.proofs.Common.{◌≡◌, ap, rules, subst, sym, ◌∙◌}
use Rattle.m88_session.specs.Settings.{Settings, settings_of}
use Rattle.m88_commands.specs.Words.{SayOpening, SaySettings}
use Rattle.m88_base.specs.Words.{texts}
use Rattle.m88_commands.proofs.NoneRead.{reads_none}
use Rattle.m88_commands.proofs.grammar.settings.Goals as goal

pub returns-in_err-settings : goal.returns-in_err-settings
returns-in_err-settings c = reads_none c.from_residual-in_err-settings.result (search rules) (λ s said.
    let first = c.in_ok-limit.ensures.found in
    let same : said.rest ≡ texts c.in_ok-limit.words.now = cc in
    let text : said.limit_text ≡ c.as_bytes.result.now = cc c.as_bytes.ensures.value in
    let one = c.in_ok-limit-2.ensures.only s.limit said.is_limit.1 (rw (← text) said.is_limit.0) in
    let limit : s.limit ≡ c.in_ok-limit-2.limit = cc in
    c.in_err-settings.ensures.only s (subst (λ n. SayOpening n (texts c.in_ok-limit.words.now) s) limit (rw (← same) said.say_rest)))

pub returns : goal.returns
returns c =
    let own = c.in_ok-settings.settings in
    let limit : own.limit ≡ c.in_ok-limit-2.limit = c.in_ok-settings.ensures.fit.0 in
    let is = ap (λ n. settings_of n own.absent own.schedule own.mxm) (sym limit) in
    record {
      found = subst (λ (s : Settings). SaySettings (texts c.args.words.now) s) is (record {
        limit_text = c.in_ok-limit.limit.now;
        rest = texts c.in_ok-limit.words.now;
        words_are = c.in_ok-limit.ensures.found;
        is_limit = search rules;
        say_rest = c.in_ok-settings.ensures.found;
      });
      only = λ s said.
          let first = c.in_ok-limit.ensures.found in
          let same : said.rest ≡ texts c.in_ok-limit.words.now = cc in
          let text : said.limit_text ≡ c.as_bytes.result.now = cc c.as_bytes.ensures.value in
          let one = c.in_ok-limit-2.ensures.only s.limit said.is_limit.1 (rw (← text) said.is_limit.0) in
          let same_limit : s.limit ≡ c.in_ok-limit-2.limit = cc in
          sym is ∙ c.in_ok-settings.ensures.only s
          (subst (λ n. SayOpening n (texts c.in_ok-limit.words.now) s) same_limit (rw (← same) said.say_rest));
      fit = search rules;
    }
