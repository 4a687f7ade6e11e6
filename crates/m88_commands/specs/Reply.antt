-- What the reply to an input says, and what a watch was shown on the way to it.
use Rattle.std.specs.Prelude.{ℕ, ◌≡◌, List, Option, MatchOption}
use Rattle.m88_base.specs.Refusal.{refusal_line}
use Rattle.m88_base.specs.declared.reply.Reply.{Reply}
use Rattle.m88_board.specs.declared.glance.Glance.{Glance}
use Rattle.m88_commands.specs.Answer.{IsAnswerToAccepted, Refuses}
use Rattle.m88_commands.specs.Command.{Command}
use Rattle.m88_commands.specs.Watching.{Shown}

-- the reply's text answers an input that is accepted; or the reply has a refusal of the input, and its text is the line
-- of that
abbrev pub Replies : Command → List ℕ → Reply → Type 0
Replies command input r =
    MatchOption r.refused (IsAnswerToAccepted command input r.text.items)
    (λ told. Refuses command input told.refusal × (r.text.items ≡ refusal_line told.refusal))

-- a watch, which tells what it was shown, was shown the whole of a command whose reply accepts the input, and is as it
-- was where the reply refuses it
abbrev pub WatchesReply : {W : Type 0} → (W → Option (List Glance)) → W → W → Command → List ℕ → Reply → Type 0
WatchesReply seen old new command input r =
    MatchOption r.refused (Shown command input (seen old) (seen new)) (λ told. new ≡ old)
