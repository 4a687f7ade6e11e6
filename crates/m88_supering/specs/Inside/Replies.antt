-- What the reply to an input says.
use Rattle.std.specs.Prelude.{ℕ, List}
use Rattle.m88_base.specs.Reply.{AnswersAs, RefusesAs}
use Rattle.m88_base.specs.declared.reply.Reply.{Reply}
use Rattle.m88_supering.specs.Answer.{IsMade, IsRefused, IsTurnedDown}
use Rattle.m88_supering.specs.declared.request.Request.{Request}

-- the reply's text answers an input that is accepted or refused by what is asked for, as the reply says, and its refusal
-- is that of the input
abbrev pub Replies : Request → List ℕ → Reply → Type 0
Replies request input r =
    AnswersAs (IsMade request input) (IsTurnedDown request input) r × RefusesAs (IsRefused request input) r
