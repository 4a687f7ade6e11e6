-- What the program does with its words, its source, its sink and its watch. Of a source, a sink or a watch that doesn't
-- tell what it gave, held or was shown, nothing is said of these.
use Rattle.std.specs.Prelude.{ℕ, ◌≡◌, ◌≢◌, List, Option}
use Rattle.m88_base.specs.Filter.{AnswersFor, ReadsFor, UsageFor, WritesFor}
use Rattle.m88_base.specs.declared.refused.Refused.{Refused as Told}
use Rattle.m88_base.specs.declared.status.Status.{Status}
use Rattle.m88_base.specs.declared.status.Status.TheVariants.{SourceFault, TooLong, Usage}
use Rattle.m88_board.specs.declared.glance.Glance.{Glance}
use Rattle.m88_commands.specs.Answer.{IsAnswerToAccepted, IsAnswerToRefused}
use Rattle.m88_commands.specs.Command.{Command, SpellNoReader, SpellNothing, Spells}
use Rattle.m88_commands.specs.Inputs.{ShowsRefusal, left_for}
use Rattle.m88_commands.specs.Watching.{Shown}

-- an input is accepted with this text, and the watch was shown the boards of the command
abbrev pub AcceptedWith : {W : Type 0} → (W → Option (List Glance)) → W → W → Command → List ℕ → List ℕ → Type 0
AcceptedWith seen old new command input text =
    IsAnswerToAccepted command input text × Shown command input (seen old) (seen new)

-- it is refused with this text, and the watch was shown nothing
abbrev pub RefusedWith : {W : Type 0} → W → W → Command → List ℕ → List ℕ → Type 0
RefusedWith old new command input text = IsAnswerToRefused command input text × (new ≡ old)

-- what the program does, where it ends with this status
pub record CarriesOut {S K W : Type 0} (left : S → Option (List ℕ)) (source_calls : S → Option ℕ)
    (source_faults : S → ℕ) (held : K → Option (List ℕ)) (sink_calls : K → Option ℕ) (sink_faults : K → ℕ)
    (seen : W → Option (List Glance)) (source source_after : S) (sink sink_after : K) (watch watch_after : W)
    (words : List (List ℕ)) (status : Status) : Type 0 where
  -- words that spell no command are answered Usage, and no others; then nothing is read
  pub usage : UsageFor (SpellNothing words) source source_after status
  -- any other answer is that of a command
  pub spelled : status ≢ Usage → (command : Command) × Spells words command
  -- a command that has no input leaves the source alone, and isn't answered by what that does
  pub unread : SpellNoReader words
      → (source_after ≡ source) × (status ≢ SourceFault) × (status ≢ TooLong)
  -- at most two calls more are made of the source than an input may have bytes; a source or a sink is blamed only for
  -- what it did, and no failure is passed over; without a text nothing is written
  pub reading : ReadsFor left source_calls source_faults source source_after status
  pub writing : WritesFor sink_faults sink sink_after status
  -- a command ends with Done or Refused by what its input is, which was read to its end; the sink was given the text for
  -- that, and the watch was shown all of the command or nothing; where the sink failed it was given a front of the text
  pub answers : (command : Command) → Spells words command
      → AnswersFor (λ s. left_for command (left s)) held sink_calls source source_after sink sink_after
      (AcceptedWith seen watch watch_after command) (RefusedWith watch watch_after command) status

-- what is told of the refusal of an input: it is that of a command which the words spell, with the line there
pub record IsToldBy (words : List (List ℕ)) (input : List ℕ) (told : Told) : Type 0 where
  pub command : Command
  pub spelled : Spells words command
  pub shows : ShowsRefusal command input told
