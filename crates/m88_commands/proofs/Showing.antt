-- A reply whose refusal shows a line answers as the reply does, and where memory ran out for that line the watch was shown
-- a front that is all.
use Rattle.std.proofs.Common.{◌≡◌, ℕ, List, [], ◌++◌, Option, Some, None, Result, Ok, Err, append-nil, inl, inr, refl, subst, sym}
use Rattle.std.specs.Prelude.{IfOk, MatchOption}
use Rattle.std.specs.Option.{option_map}
use Rattle.m88_base.specs.Refusal.{Refusal, refusal_line}
use Rattle.m88_base.specs.Reply.{refusal_of}
use Rattle.m88_base.specs.declared.failing.NoMemory.{NoMemory}
use Rattle.m88_base.specs.declared.refused.Refused.{Refused as Told}
use Rattle.m88_base.specs.declared.reply.Reply.{Reply}
use Rattle.m88_board.specs.declared.glance.Glance.{Glance}
use Rattle.m88_commands.specs.Answer.{IsAnswerToAccepted, Refuses}
use Rattle.m88_commands.specs.Command.{Command}
use Rattle.m88_commands.specs.Inside.Reply.{AnswersShown, WatchesFront}
use Rattle.m88_commands.specs.Reply.{Replies, WatchesReply}
use Rattle.m88_commands.specs.Watching.{Shown, ShowsGlances}

-- options with one refusal are both there or both not
same_choice : (Accepted Refused : Type 0) (a b : Option Told)
    → option_map (λ (t : Told). t.refusal) a ≡ option_map (λ (t : Told). t.refusal) b
    → MatchOption b Accepted (λ told. Refused) → MatchOption a Accepted (λ told. Refused)
same_choice Accepted Refused None None e h = h
same_choice Accepted Refused None (Some t) e h = absurd cc
same_choice Accepted Refused (Some s) None e h = absurd cc
same_choice Accepted Refused (Some s) (Some t) e h = h

module _ {W : Type 0} (seen : W → Option (List Glance)) (old new : W) (command : Command) (input : List ℕ) (reply : Reply)
    (replies : Replies command input reply) (watches : WatchesReply seen old new command input reply) where
  -- what a reply says of an input, by its refusal and its text
  abbrev Says : Option Told → List ℕ → Type 0
  Says refused text =
      MatchOption refused (IsAnswerToAccepted command input text)
      (λ told. Refuses command input told.refusal × (text ≡ refusal_line told.refusal))

  says_so : (a b : Option Told) (text : List ℕ)
      → option_map (λ (t : Told). t.refusal) a ≡ option_map (λ (t : Told). t.refusal) b → Says b text → Says a text
  says_so None None text e h = h
  says_so None (Some t) text e h = absurd cc
  says_so (Some s) None text e h = absurd cc
  says_so (Some s) (Some t) text e h = let same : s.refusal ≡ t.refusal = cc in rw same h

  -- all that was shown is a front of itself
  front : (o : Option Told) → Says o reply.text.items → MatchOption o (Shown command input (seen old) (seen new)) (λ told. new ≡ old)
      → WatchesFront seen old new command input
  front None answers shown = inr (record {
    accepted = answers.accepted;
    glances = shown.0;
    others = [];
    shows = subst (λ (glances : List Glance). ShowsGlances command input glances) (sym (append-nil shown.0)) shown.1;
    saw = shown.2;
  })
  front (Some told) answers same = inl same

  pub shown_answers : (result : Result Reply NoMemory) → IfOk result (λ r. r.text ≡ reply.text)
      → IfOk result (λ r. refusal_of r ≡ refusal_of reply) → AnswersShown seen old new command input result
  shown_answers (Err e) text told = record { reply = tt; watched = tt; front = front reply.refused replies watches }
  shown_answers (Ok r) text told = record {
    reply = rw text (says_so r.refused reply.refused reply.text.items told replies);
    watched = same_choice (Shown command input (seen old) (seen new)) (new ≡ old) r.refused reply.refused told watches;
    front = tt;
  }
