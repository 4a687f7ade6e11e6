-- What a command does with an input, and what a watch was shown where there is no reply.
use Rattle.std.specs.Prelude.{ℕ, ◌≡◌, ◌⊎◌, List, Option, Result, IfOk, OnErr}
use Rattle.m88_base.specs.declared.reply.Reply.{Reply}
use Rattle.m88_board.specs.declared.glance.Glance.{Glance}
use Rattle.m88_commands.specs.Command.{Command}
use Rattle.m88_commands.specs.Reply.{Replies, WatchesReply}
use Rattle.m88_commands.specs.Watching.{FrontOfAccepted}

-- where there is no reply a watch was shown a front of a command that accepts its input, or is as it was
abbrev pub WatchesFront : {W : Type 0} → (W → Option (List Glance)) → W → W → Command → List ℕ → Type 0
WatchesFront seen old new command input = (new ≡ old) ⊎ FrontOfAccepted command input (seen old) (seen new)

-- a command answers an input, and shows a watch what it does: the reply says what it is to the input; the watch was
-- shown the whole where the input is accepted; and without a reply a front of that, or nothing
pub record AnswersShown {W E : Type 0} (seen : W → Option (List Glance)) (old new : W) (command : Command)
    (input : List ℕ) (result : Result Reply E) : Type 0 where
  pub reply : IfOk result (Replies command input)
  pub watched : IfOk result (WatchesReply seen old new command input)
  pub front : OnErr result (WatchesFront seen old new command input)
