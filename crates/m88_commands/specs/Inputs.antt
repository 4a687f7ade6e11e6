-- The input of a command, as its source has and gives it. Of a source that doesn't tell its bytes nothing is said.
use Rattle.std.specs.Prelude.{ℕ, List, [], Option, Some, if◌then◌else◌}
use Rattle.m88_base.specs.Outside.{GivesAll}
use Rattle.m88_base.specs.Shown.{IsShownOf}
use Rattle.m88_base.specs.declared.refused.Refused.{Refused}
use Rattle.m88_commands.specs.Answer.{Refuses}
use Rattle.m88_commands.specs.Command.{Command, InputKind, kind_of, reads_input, record_text}

-- what a source, with these bytes left, has left for a command: for one that reads no input it is empty
abbrev pub left_for : Command → Option (List ℕ) → Option (List ℕ)
left_for command left = if reads_input command then left else Some []

-- the source, with these bytes left before and those after, gave a command its input: all that it had for it, to its
-- end
abbrev pub GivesInput : Command → Option (List ℕ) → Option (List ℕ) → List ℕ → Type 0
GivesInput command before after input = GivesAll (left_for command before) (left_for command after) input

-- what is kept of an input as a text: of S-records nothing is
abbrev pub kept_text : InputKind → List ℕ → List ℕ
kept_text record_text input = []
kept_text _ input = input

-- what is told of a refusal is that of a command's input, with the line there of what is kept of it
abbrev pub ShowsRefusal : Command → List ℕ → Refused → Type 0
ShowsRefusal command input told = Refuses command input told.refusal × IsShownOf (kept_text (kind_of command) input) told
