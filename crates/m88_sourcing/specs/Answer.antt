-- What is written for an input: the source of its image, or the line that refuses it.
use Rattle.std.specs.Prelude.{◌≡◌, ◌⊎◌, ℕ, List}
use Rattle.m88_base.specs.Image.{ProgramImage}
use Rattle.m88_base.specs.Refusal.{Refusal, refusal_line}
use Rattle.m88_base.specs.declared.refused.Refused.{Refused}
use Rattle.m88_sourcing.specs.Inputs.{IsImageIn, IsRefusedIn}
use Rattle.m88_sourcing.specs.Request.{Asks, Request}
use Rattle.m88_sourcing.specs.Said.{said_of}
use Rattle.m88_sourcing.specs.Source.{IsSource}

-- the text is the source of the image that the input is
pub record SourcesAccepted (request : Request) (input text : List ℕ) : Type 0 where
  pub image : ProgramImage
  pub is_image : IsImageIn request.binary input image
  pub is_source : IsSource image (said_of request.hints) text

-- the text is the line that refuses the input
pub record SourcesRefused (request : Request) (input text : List ℕ) : Type 0 where
  pub refusal : Refusal
  pub refused : IsRefusedIn request.binary input refusal
  pub is_text : text ≡ refusal_line refusal

-- the text answers the input, which is accepted or refused
abbrev pub Sources : Request → List ℕ → List ℕ → Type 0
Sources request input text = SourcesAccepted request input text ⊎ SourcesRefused request input text

-- words ask for nothing
abbrev pub AskNothing : List (List ℕ) → Type 0
AskNothing words = (request : Request) → ¬ Asks words request

-- the words ask for something, and the text of the input is as told for that
pub record AsAsked (words : List (List ℕ)) (IsText : Request → List ℕ → List ℕ → Type 0)
    (input text : List ℕ) : Type 0 where
  pub request : Request
  pub asked : Asks words request
  pub is_text : IsText request input text

-- what is told of an input that is refused, as the words ask for it: where and why
pub record IsToldOf (words : List (List ℕ)) (input : List ℕ) (told : Refused) : Type 0 where
  pub request : Request
  pub asked : Asks words request
  pub refused : IsRefusedIn request.binary input told.refusal
