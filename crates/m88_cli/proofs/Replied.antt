-- What a reply is to the input that a source gave a command.
use Rattle.std.proofs.Common.{◌≡◌, ◌≢◌, ◌<◌, ◌⊎◌, ℕ, List, [], Option, Some, None, Bool, true, false, IfSome, ap, arith, length, refl, subst, sym, ◌∙◌}
use Rattle.std.specs.Prelude.{MatchBool, MatchOption, if◌then◌else◌, is_none}
use Rattle.m88_base.proofs.Laws.{AreVerdicts}
use Rattle.m88_base.specs.Filter.{TellsRefused}
use Rattle.m88_base.specs.Outside.{GivesAll}
use Rattle.m88_base.specs.Refusal.{Refusal, refusal_line}
use Rattle.m88_base.specs.Reply.{AnswersAs, AnswersRefusal, ShowsLineOf, accepts}
use Rattle.m88_base.specs.Shown.{IsShownOf}
use Rattle.m88_base.specs.declared.refused.Refused.{Refused as Told}
use Rattle.m88_base.specs.declared.reply.Answer.{Answer}
use Rattle.m88_base.specs.declared.reply.Reply.{Reply}
use Rattle.m88_base.specs.declared.status.Status.TheVariants.{Refused}
use Rattle.m88_board.specs.declared.glance.Glance.{Glance}
use Rattle.m88_commands.proofs.Laws.{command_laws, refused_not_accepted}
use Rattle.m88_commands.specs.Answer.{IsAnswerToAccepted, Refuses}
use Rattle.m88_commands.specs.Command.{Command, InputKind, is_read, kind_of, no_input, reads_input, Spells}
use Rattle.m88_commands.specs.Inputs.{GivesInput, kept_text}
use Rattle.m88_commands.specs.Kinds.{IsRefusedAs}
use Rattle.m88_commands.specs.Reply.{Replies, WatchesReply}
use Rattle.m88_commands.specs.Watching.{Shown}
use Rattle.m88_cli.specs.Calls.{AcceptedWith, IsToldBy, RefusedWith}

-- a line that refuses has bytes
refusal_some : (r : Refusal) → 0 < length (refusal_line r)
refusal_some r = omega arith

module _ {W : Type 0} (seen : W → Option (List Glance)) (old new : W) (command : Command) where
  pub refused_some : (input text : List ℕ) → RefusedWith old new command input text → 0 < length text
  refused_some input text of = subst (λ t. 0 < length t) (sym of.0.line) (refusal_some of.0.refusal)

  pub verdicts : AreVerdicts (AcceptedWith seen old new command) (RefusedWith old new command)
  verdicts = record {
    not_both = λ input a b accepted refused. refused_not_accepted command input refused.0.refusal refused.0.refused accepted.0.accepted;
    one_refusal = λ input a b one other.
        one.0.line
        ∙ ap refusal_line ((command_laws.one_verdict command input).one_fault one.0.refusal other.0.refusal one.0.refused other.0.refused)
        ∙ sym other.0.line;
  }

  -- a reply answers the input, and the watch was shown what it says
  pub answers_as : (input : List ℕ) (reply : Reply) → Replies command input reply → WatchesReply seen old new command input reply
      → AnswersAs (AcceptedWith seen old new command input) (RefusedWith old new command input) reply
  answers_as input reply replies watches = by reply.refused replies watches
    where
      by : (o : Option Told)
          → MatchOption o (IsAnswerToAccepted command input reply.text.items)
          (λ told. Refuses command input told.refusal × (reply.text.items ≡ refusal_line told.refusal))
          → MatchOption o (Shown command input (seen old) (seen new)) (λ told. new ≡ old)
          → MatchBool (is_none o) (AcceptedWith seen old new command input reply.text.items) (RefusedWith old new command input reply.text.items)
      by None answers shown = (answers, shown)
      by (Some told) answers same = (record { refusal = told.refusal; refused = answers.0; line = answers.1 }, same)

-- an input that is refused was read
refused_is_read : (kind : InputKind) (input : List ℕ) (r : Refusal) → IsRefusedAs kind input r → is_read kind ≡ true
refused_is_read no_input input r refused = absurd refused
refused_is_read _ input r refused = refl

given_whole : (reads : Bool) (before after : Option (List ℕ)) (input : List ℕ) → reads ≡ true
    → GivesAll (if reads then before else Some []) (if reads then after else Some []) input → GivesAll before after input
given_whole true before after input read gives = gives
given_whole false before after input read gives = absurd cc

-- so what is told of its refusal is that of the input which the source gave
pub told_by : {S : Type 0} (left : S → Option (List ℕ)) (source source_after : S) (words : List (List ℕ)) (command : Command)
    (spelled : Spells words command) (input : List ℕ) (reply : Reply) (answer : Answer) → GivesInput command (left source) (left source_after) input
    → Replies command input reply → ShowsLineOf (kept_text (kind_of command) input) reply → AnswersRefusal reply answer
    → TellsRefused left source source_after (IsToldBy words) answer
told_by left source source_after words command spelled input reply answer gives replies shows told = by answer.refused told
  where
    by : (refused : Option Told)
        → MatchOption refused (answer.status ≢ Refused) (λ r. (answer.status ≡ Refused) × (reply.refused ≡ Some r))
        → MatchOption refused (answer.status ≢ Refused) (λ r. (answer.status ≡ Refused)
        × (input : List ℕ) × GivesAll (left source) (left source_after) input × IsToldBy words input r)
    by None h = h
    by (Some r) h =
        let refuses = subst (λ (o : Option Told). MatchOption o (IsAnswerToAccepted command input reply.text.items)
        (λ told. Refuses command input told.refusal × (reply.text.items ≡ refusal_line told.refusal))) h.1 replies in
        let shown = subst (λ (o : Option Told). IfSome o (IsShownOf (kept_text (kind_of command) input))) h.1 shows in (
          h.0,
          input,
          given_whole (reads_input command) (left source) (left source_after) input
              (refused_is_read (kind_of command) input r.refusal refuses.0) gives,
          record { command = command; spelled = spelled; shows = (refuses.0, shown) },
        )
