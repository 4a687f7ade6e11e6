-- An input as the code keeps it.
use Rattle.std.specs.Prelude.{ℕ, ◌≡◌, ◌≤◌, List, [], Option, length}
use Rattle.m88_srec.specs.Refused.{AreRecordsOf}
use Rattle.m88_commands.specs.Inputs.{GivesInput}
use Rattle.m88_commands.specs.Command.{Command, InputKind, no_input, record_text}
use Rattle.m88_commands.specs.Limits.{most_input}
use Rattle.m88_commands.specs.declared.input.Input.{Input}
use Rattle.m88_commands.specs.declared.input.Input.TheVariants.{Nothing, Text, Records}

-- it was made of these bytes
abbrev pub IsMadeOf : Input → List ℕ → Type 0
IsMadeOf Nothing input = input ≡ []
IsMadeOf (Text text) input = text.items ≡ input
IsMadeOf (Records records) input = AreRecordsOf records input

-- it is a text, which isn't too long
abbrev pub IsTextRead : Input → Type 0
IsTextRead (Text text) = length text.items ≤ most_input
IsTextRead _ = ⊥

-- nothing was read
abbrev pub IsNothingRead : Input → Type 0
IsNothingRead Nothing = Unit {0}
IsNothingRead _ = ⊥

-- it is what was made of S-records
abbrev pub IsRecordsRead : Input → Type 0
IsRecordsRead (Records records) = Unit {0}
IsRecordsRead _ = ⊥

-- it is kept as inputs of the kind are: none not at all, S-records as what they write, and any other as its text
abbrev pub IsKeptAs : InputKind → Input → Type 0
IsKeptAs no_input input = IsNothingRead input
IsKeptAs record_text input = IsRecordsRead input
IsKeptAs _ input = IsTextRead input

-- the source gave a command its input, and it was made of that
pub record IsReadFrom (command : Command) (before after : Option (List ℕ)) (input : Input) : Type 0 where
  pub bytes : List ℕ
  pub given : GivesInput command before after bytes
  pub is_made : IsMadeOf input bytes
