-- What is written for an input: how the handler's entry went and what it left, or the line that refuses the input.
use Rattle.std.specs.Prelude.{ℕ, ◌≡◌, ◌⊎◌, List, Some}
use Rattle.m88_asm.specs.Sources.{HoldsOfProgram}
use Rattle.m88_base.specs.Refusal.{Refusal, refusal_line}
use Rattle.m88_base.specs.Shown.{IsShownOf}
use Rattle.m88_base.specs.declared.refused.Refused.{Refused}
use Rattle.m88_entries.specs.Left.{fault_text}
use Rattle.m88_entries.specs.Told.{Told}
use Rattle.m88_supering.specs.Inputs.{IsFaultInput, IsRefusedInput, TellsFault}
use Rattle.m88_supering.specs.Request.{asked_for}
use Rattle.m88_supering.specs.declared.request.Request.{Request}
use Rattle.m88_supering.specs.declared.request.Request.TheVariants.{Fault}

-- the text is that of the entry of the handler's program by the fault that is told, with up to so many instructions
pub record IsEntryText (steps : ℕ) (input text : List ℕ) : Type 0 where
  pub told : Told
  pub tells : TellsFault input told
  pub is_text : HoldsOfProgram tells.parts.source (λ p. text ≡ fault_text p steps told)

-- the text is the line that refuses the input
pub record IsRefusalText (input text : List ℕ) : Type 0 where
  pub refusal : Refusal
  pub refused : IsRefusedInput input refusal
  pub is_text : text ≡ refusal_line refusal

-- what is asked for is made of the input
abbrev pub IsMade : Request → List ℕ → List ℕ → Type 0
IsMade (Fault steps) input text = IsEntryText steps input text

-- the input is refused by what is asked for
abbrev pub IsTurnedDown : Request → List ℕ → List ℕ → Type 0
IsTurnedDown (Fault steps) input text = IsRefusalText input text

-- the input is accepted by what is asked for
abbrev pub IsAccepted : Request → List ℕ → Type 0
IsAccepted (Fault steps) input = IsFaultInput input

-- the input is refused by it for a reason
abbrev pub IsRefused : Request → List ℕ → Refusal → Type 0
IsRefused (Fault steps) input r = IsRefusedInput input r

-- the text answers the input
abbrev pub IsAnswer : Request → List ℕ → List ℕ → Type 0
IsAnswer request input text = IsMade request input text ⊎ IsTurnedDown request input text

-- the words ask for something, and the text of the input is as told for that
pub record AsAsked (words : List (List ℕ)) (IsText : Request → List ℕ → List ℕ → Type 0)
    (input text : List ℕ) : Type 0 where
  pub request : Request
  pub asked : asked_for words ≡ Some request
  pub is_text : IsText request input text

-- the words ask for something, and what is told of the input is where and why it is refused by that, and the line there
pub record IsToldBy (words : List (List ℕ)) (input : List ℕ) (told : Refused) : Type 0 where
  pub request : Request
  pub asked : asked_for words ≡ Some request
  pub refused : IsRefused request input told.refusal
  pub shown : IsShownOf input told
