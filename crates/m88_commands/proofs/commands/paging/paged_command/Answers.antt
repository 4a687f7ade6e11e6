-- The words say the number of frames that is read of them, and behind it what is read of the others.
use Rattle.std.proofs.Common.{◌≡◌, ℕ, List, ◌∷◌, ap₂, codes, false, refl, rules}
use Rattle.m88_commands.specs.Command.{Command, Spells, page}
use Rattle.m88_session.specs.Settings.{Settings, settings_of}
use Rattle.m88_commands.specs.Words.{SayPaged}
use Rattle.m88_base.specs.Words.{texts}
use Rattle.m88_commands.proofs.NoneRead.{reads_none}
use Rattle.m88_commands.proofs.commands.paging.paged_command.Goals as goal

-- what holds of each run that the words behind the name say holds of each command that they spell
page_said : (words : List (List ℕ)) (Holds : Command → Type 0)
    → ((frames : ℕ) (settings : Settings) → SayPaged words frames settings → Holds (page frames settings))
    → (choice : Command) → Spells (codes "page" ∷ words) choice → Holds choice
page_said = search rules

pub returns-in_err-settings : goal.returns-in_err-settings
returns-in_err-settings c = reads_none c.from_residual-in_err-settings.result (search rules)
    (page_said _ (λ _. ⊥) (λ frames settings say.
    let same : say.rest ≡ texts c.in_ok-frames.words.now = cc c.in_ok-frames.ensures.found in
    c.in_err-settings.ensures.only settings (rw (← same) say.say_rest)))

pub returns : goal.returns
returns c =
    let run = c.in_ok-settings.settings in
    let s = settings_of run.limit run.absent run.schedule false in
    record {
      found = record {
        rest = texts c.args.words.now;
        words_are = refl;
        say_rest = record {
          frames_text = c.in_ok-frames.frames.now;
          rest = texts c.in_ok-frames.words.now;
          words_are = c.in_ok-frames.ensures.found;
          is_count = search rules;
          say_rest = c.in_ok-settings.ensures.found;
        };
      };
      only = page_said _ (λ choice. page c.in_ok-frames-2.frames s ≡ choice) (λ frames settings say.
          let first = c.in_ok-frames.ensures.found in
          let same : say.rest ≡ texts c.in_ok-frames.words.now = cc in
          let text : say.frames_text ≡ c.as_bytes.result.now = cc c.as_bytes.ensures.value in
          let one = c.in_ok-frames-2.ensures.only frames say.is_count.2 (rw (← text) say.is_count.0) in
          let same_frames : c.in_ok-frames-2.frames ≡ frames = cc in
          ap₂ page same_frames (c.in_ok-settings.ensures.only settings (rw (← same) say.say_rest)));
      fit = search rules;
    }
