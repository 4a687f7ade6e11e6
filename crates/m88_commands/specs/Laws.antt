-- The laws of commands, of every input.
use Rattle.std.specs.Prelude.{ℕ, ◌≡◌, List}
use Rattle.m88_base.specs.OneVerdict.{HasOneFaultUnless, HasOneVerdict}
use Rattle.m88_session.specs.Script.{HasNoScript, IsScriptOf}
use Rattle.m88_commands.specs.Answer.{Accepts, IsOutput, Refuses}
use Rattle.m88_commands.specs.Answer.Runs.{WorkloadsAreAccepted}
use Rattle.m88_commands.specs.Bridge.{AssembledLinksAlike, BuiltRunsAlike, ListedBuildsAlike, TracedIsChecked}
use Rattle.m88_commands.specs.Command.{Command}

pub record CommandLaws : Type 0 where
  -- a command accepts an input or refuses it for one reason, never both
  pub one_verdict : (command : Command) (input : List ℕ) → HasOneFaultUnless (Accepts command input) (Refuses command input)
  -- it writes no two texts for one that it accepts
  pub one_text : (command : Command) (input a b : List ℕ) → IsOutput command input a → IsOutput command input b → a ≡ b
  -- an input is a script with a source behind it, or there is one line at which it isn't
  pub one_script : (input : List ℕ) → HasOneVerdict (IsScriptOf input) (HasNoScript input)
  -- what `build` writes of a source runs by `exec` as the source does by `run`
  pub bridge : BuiltRunsAlike
  -- what `asm` writes of it links by `link` as the source does by `build`
  pub relinked : AssembledLinksAlike
  -- what `dis` writes of S-records is built into the records of their image
  pub relisted : ListedBuildsAlike
  -- what `trace` writes of a source is accepted behind it by `check`
  pub traced : TracedIsChecked
  -- the source of each workload is accepted, so `soak` always has a run to tell of
  pub workloads : WorkloadsAreAccepted
