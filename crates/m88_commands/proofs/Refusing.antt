-- The reply that refuses an input answers it.
use Rattle.std.proofs.Common.{◌≡◌, List, [], ℕ, Option, Some, None, Result, Ok, Err, ap, inl, refl, subst, sym, ◌∙◌}
use Rattle.std.specs.Prelude.{IfOk, MatchOption}
use Rattle.std.specs.Option.{option_map}
use Rattle.m88_base.specs.Refusal.{Refusal, refusal_line}
use Rattle.m88_base.specs.declared.refused.Refused.{Refused as Told}
use Rattle.m88_base.specs.Reply.{IsRefusalOf}
use Rattle.m88_base.specs.declared.failing.NoMemory.{NoMemory}
use Rattle.m88_commands.specs.Answer.{IsAnswerToAccepted, Refuses}
use Rattle.m88_commands.specs.Command.{Command}
use Rattle.m88_commands.specs.Inside.Reply.{AnswersShown}
use Rattle.m88_commands.specs.Reply.{Replies}
use Rattle.m88_commands.specs.Watching.{Shown}
use Rattle.m88_board.proofs.Laws.{saw_none}
use Rattle.m88_board.specs.Glances.{Saw}
use Rattle.m88_board.specs.declared.glance.Glance.{Glance}
use Rattle.m88_base.specs.declared.reply.Reply.{Reply}

-- the reply that refuses an input answers it
pub refused_reply : (command : Command) (input : List ℕ) (refusal : Refusal) (result : Result Reply NoMemory)
    → Refuses command input refusal → IfOk result (IsRefusalOf refusal) → IfOk result (Replies command input)
refused_reply command input refusal (Err e) refuses reply = tt
refused_reply command input refusal (Ok r) refuses reply = by r.refused reply.refused
  where
    by : (o : Option Told) → option_map (λ (told : Told). told.refusal) o ≡ Some refusal
        → MatchOption o (IsAnswerToAccepted command input r.text.items)
        (λ told. Refuses command input told.refusal × (r.text.items ≡ refusal_line told.refusal))
    by None e = absurd cc
    by (Some told) e =
        let same : told.refusal ≡ refusal = cc in (subst (Refuses command input) (sym same) refuses, reply.line ∙ ap refusal_line (sym same))

-- and a watch is as it was
pub refused_shown : {W : Type 0} (seen : W → Option (List Glance)) (watch : W) (command : Command) (input : List ℕ) (refusal : Refusal)
    (result : Result Reply NoMemory) → Refuses command input refusal → IfOk result (IsRefusalOf refusal)
    → AnswersShown seen watch watch command input result
refused_shown seen watch command input refusal (Err e) refuses reply = record { reply = tt; watched = tt; front = inl refl }
refused_shown seen watch command input refusal (Ok r) refuses reply =
    record { reply = refused_reply command input refusal (Ok r) refuses reply; watched = by r.refused reply.refused; front = tt }
  where
    by : (o : Option Told) → option_map (λ (told : Told). told.refusal) o ≡ Some refusal
        → MatchOption o (Shown command input (seen watch) (seen watch)) (λ told. watch ≡ watch)
    by None e = absurd cc
    by (Some told) e = refl

-- nor is it shown anything by a command that shows no boards
pub shows_none : (seen : Option (List Glance)) → (glances : List Glance) × (glances ≡ []) × Saw seen seen glances
shows_none seen = ([], refl, saw_none seen)
