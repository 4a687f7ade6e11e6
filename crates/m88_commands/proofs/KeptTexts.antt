-- What is kept of an input as a text, as the code has it.
use Rattle.std.proofs.Common.{◌≡◌, ℕ, List, [], refl, sym}
use Rattle.m88_commands.specs.Command.{InputKind, no_input, record_text}
use Rattle.m88_commands.specs.Inputs.{kept_text}
use Rattle.m88_commands.specs.Inside.Inputs.{IsKeptAs, IsMadeOf}
use Rattle.m88_commands.specs.declared.input.Input.{Input}
use Rattle.m88_commands.specs.declared.input.Input.TheVariants.{Nothing, Text, Records}

-- the bytes of a text, and of any other input none
abbrev pub bytes_kept : Input → List ℕ
bytes_kept (Text text) = text.items
bytes_kept _ = []

-- they are what is kept of the input that it was made of
pub all_kept : (i : Input) (kind : InputKind) (input : List ℕ) → IsKeptAs kind i → IsMadeOf i input → bytes_kept i ≡ kept_text kind input
all_kept Nothing no_input input kept made = sym made
all_kept Nothing record_text input kept made = absurd kept
all_kept Nothing _ input kept made = absurd kept
all_kept (Text text) no_input input kept made = absurd kept
all_kept (Text text) record_text input kept made = absurd kept
all_kept (Text text) _ input kept made = made
all_kept (Records records) no_input input kept made = absurd kept
all_kept (Records records) record_text input kept made = refl
all_kept (Records records) _ input kept made = absurd kept
