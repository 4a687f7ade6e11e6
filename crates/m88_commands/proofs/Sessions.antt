-- A session of an input answers it.
use Rattle.std.proofs.Common.{◌≡◌, ◌⊎◌, ℕ, List, Option, Err, inl, inr, None}
use Rattle.m88_base.specs.declared.failing.NoMemory.{NoMemory}
use Rattle.m88_base.specs.declared.reply.Reply.{Reply}
use Rattle.m88_board.specs.declared.glance.Glance.{Glance}
use Rattle.m88_session.specs.MonitorText.{IsFrontOfSession, IsShownSession}
use Rattle.m88_session.specs.Settings.{Settings}
use Rattle.m88_commands.specs.Answer.{IsAnswerToAccepted}
use Rattle.m88_commands.specs.Command.{mon}
use Rattle.m88_commands.specs.Inside.Reply.{WatchesFront}
use Rattle.m88_commands.specs.Watching.{Shown}

module _ (input : List ℕ) (s : Settings) where
  pub session_answer : (text : List ℕ) (before after : Option (List Glance)) → IsShownSession input s text before after
      → IsAnswerToAccepted (mon s) input text
  session_answer text before after shown = record { accepted = shown.accepted; output = (shown.glances, shown.is_session) }

  -- and the watch is shown it
  pub session_shown : (text : List ℕ) (before after : Option (List Glance)) → IsShownSession input s text before after
      → Shown (mon s) input before after
  session_shown text before after shown = (shown.glances, (text, shown.is_session), shown.saw)

  -- or a front of it
  pub session_front : {W : Type 0} (seen : W → Option (List Glance)) (old new : W)
      → (new ≡ old) ⊎ IsFrontOfSession input s (seen old) (seen new) → WatchesFront seen old new (mon s) input
  session_front seen old new (inl same) = inl same
  session_front seen old new (inr front) = inr (record {
    accepted = front.accepted;
    glances = front.glances;
    others = front.others;
    shows = (front.text, front.is_session);
    saw = front.saw;
  })
