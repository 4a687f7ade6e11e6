-- What an input came to, and what the reply to it says.
use Rattle.std.specs.Prelude.{ℕ, List, Option, Result, Ok, Err}
use Rattle.m88_base.specs.Image.{ProgramImage}
use Rattle.m88_base.specs.Refusal.{Refusal}
use Rattle.m88_base.specs.Reply.{AnswersAs, RefusesAs}
use Rattle.m88_base.specs.declared.reply.Reply.{Reply}
use Rattle.m88_sourcing.specs.Answer.{SourcesAccepted, SourcesRefused}
use Rattle.m88_sourcing.specs.Inputs.{IsRefusedIn, SaysImage}
use Rattle.m88_sourcing.specs.Request.{Request}
use Rattle.m88_sourcing.specs.declared.request.Binary.{Binary}

-- the image that an input says, or its refusal
abbrev pub IsInputRead : Option Binary → List ℕ → Result ProgramImage Refusal → Type 0
IsInputRead binary input (Ok image) = SaysImage binary input image
IsInputRead binary input (Err refusal) = IsRefusedIn binary input refusal

-- the reply's text answers an input that is accepted or refused, as the reply says, and its refusal is that of the input
abbrev pub SourcesAs : Request → List ℕ → Reply → Type 0
SourcesAs request input r =
    AnswersAs (SourcesAccepted request input) (SourcesRefused request input) r
    × RefusesAs (IsRefusedIn request.binary input) r
