-- The words behind the name say the settings that are read of them, and nothing else.
use Rattle.std.proofs.Common.{◌≡◌, ℕ, List, ◌∷◌, ◌∙◌, ap, codes, refl, rules}
use Rattle.m88_commands.specs.Command.{Command, Spells, emu}
use Rattle.m88_commands.specs.Words.{SayPlain}
use Rattle.m88_session.specs.Settings.{Settings}
use Rattle.m88_base.specs.Words.{texts}
use Rattle.m88_commands.proofs.NoneRead.{reads_none}
use Rattle.m88_commands.proofs.commands.emulation.emulation_command.Goals as goal

-- the words spell a run whose settings those behind the name say
emu_said : (words : List (List ℕ)) (choice : Command) → Spells (codes "emu" ∷ words) choice
    → (s : Settings) × SayPlain words s × (emu s ≡ choice)
emu_said words (emu s) said =
    let same : said.rest ≡ words = cc said.words_are in (s, rw (← same) said.say_rest, refl)
emu_said words _ said = absurd (search rules)

pub returns-in_err-settings : goal.returns-in_err-settings
returns-in_err-settings c = reads_none c.from_residual.result (search rules) (λ choice said.
    let own = emu_said (texts c.args.words.now) choice said in c.in_err-settings.ensures.only own.0 own.1)

pub returns : goal.returns
returns c = record {
  found = record { rest = texts c.args.words.now; words_are = refl; say_rest = c.in_ok-settings.ensures.found };
  only = λ choice said.
      let own = emu_said (texts c.args.words.now) choice said in ap emu (c.in_ok-settings.ensures.only own.0 own.1) ∙ own.2;
  fit = c.in_ok-settings.ensures.fit;
}
