-- What a filter answers, from what it read, its reply, and what the reply's writing says.
use Rattle.std.proofs.Common.{◌≡◌, ◌≢◌, ◌⊎◌, ℕ, ◌<◌, List, Option, Some, None, Bool, true, false, IfSome, inl, inr, length, refl, subst, sym, ◌∙◌}
use Rattle.std.specs.Prelude.{MatchBool, MatchOption, is_none}
use Rattle.std.specs.Option.{option_map}
use Rattle.std.specs.Io.KnownBytes.{Appends}
use Rattle.std.proofs.KnownBytes.{Consumes-whole}
use Rattle.m88_base.specs.Calls.{CallsWithin}
use Rattle.m88_base.specs.Filter.{AnswersFor, AnswersInput, TellsRefused}
use Rattle.m88_base.specs.Outside.{AppendsPart, GivesAll}
use Rattle.m88_base.specs.Refusal.{Refusal}
use Rattle.m88_base.specs.Reply.{AnswersAs, AnswersRefusal, IsRefusalOf, RefusesAs, accepts, refusal_of}
use Rattle.m88_base.specs.Status.{Answers, WritesNothing}
use Rattle.m88_base.specs.declared.refused.Refused.{Refused as Told}
use Rattle.m88_base.specs.declared.reply.Answer.{Answer}
use Rattle.m88_base.specs.declared.reply.Reply.{Reply}
use Rattle.m88_base.specs.declared.status.Status.{Status}
use Rattle.m88_base.specs.declared.status.Status.TheVariants.{Done, SinkFault, Refused}
use Rattle.m88_base.proofs.Wholly.{answered, not_part, not_whole, only_refused}

-- no input is accepted with a text and refused with one, and one that is refused has one text
pub record AreVerdicts (AcceptedWith RefusedWith : List ℕ → List ℕ → Type 0) : Type 0 where
  pub not_both : (input a b : List ℕ) → AcceptedWith input a → RefusedWith input b → ⊥
  pub one_refusal : (input a b : List ℕ) → RefusedWith input a → RefusedWith input b → a ≡ b

-- a reply accepts or refuses
by_accepted : (A B : Type 0) (accepted : Bool) → MatchBool accepted A B → A ⊎ B
by_accepted A B true h = inl h
by_accepted A B false h = inr h

-- the reply to an input that is refused refuses it, with its text
by_refusal : (AcceptedWith RefusedWith : List ℕ → List ℕ → Type 0) → AreVerdicts AcceptedWith RefusedWith
    → (input text told : List ℕ) → RefusedWith input text
    → (accepted : Bool) → MatchBool accepted (AcceptedWith input told) (RefusedWith input told)
    → (accepted ≡ false) × (told ≡ text)
by_refusal AcceptedWith RefusedWith verdicts input text told of true h = absurd (verdicts.not_both input told text h of)
by_refusal AcceptedWith RefusedWith verdicts input text told of false h = (refl, verdicts.one_refusal input told text h of)

-- a reply with the same text and refusal, which may show a line, answers alike and refuses alike
module _ (reply shown : Reply) (text : shown.text ≡ reply.text) (told : refusal_of shown ≡ refusal_of reply) where
  accepts_alike : accepts shown ≡ accepts reply
  accepts_alike = by shown.refused reply.refused told
    where
      by : (a b : Option Told) → option_map (λ (r : Told). r.refusal) a ≡ option_map (λ (r : Told). r.refusal) b → is_none a ≡ is_none b
      by None None e = refl
      by None (Some r) e = absurd cc
      by (Some r) None e = absurd cc
      by (Some r) (Some q) e = refl

  pub answers_alike : (IsAccepted IsRefused : List ℕ → Type 0) → AnswersAs IsAccepted IsRefused reply → AnswersAs IsAccepted IsRefused shown
  answers_alike IsAccepted IsRefused h = rw (accepts_alike, text) h

  pub refuses_alike : (IsRefusal : Refusal → Type 0) → RefusesAs IsRefusal reply → RefusesAs IsRefusal shown
  refuses_alike IsRefusal h = by shown.refused reply.refused told h
    where
      by : (a b : Option Told) → option_map (λ (r : Told). r.refusal) a ≡ option_map (λ (r : Told). r.refusal) b
          → IfSome b (λ r. IsRefusal r.refusal) → IfSome a (λ r. IsRefusal r.refusal)
      by None b e h = tt
      by (Some r) None e h = absurd cc
      by (Some r) (Some q) e h = let same : r.refusal ≡ q.refusal = cc in subst IsRefusal (sym same) h

-- a reply that is the line of a refusal doesn't accept, and refuses so; one that accepts has no refusal
pub denies : (r : Refusal) (reply : Reply) → IsRefusalOf r reply → accepts reply ≡ false
denies r reply h = by reply.refused h.refused
  where
    by : (o : Option Told) → option_map (λ (told : Told). told.refusal) o ≡ Some r → is_none o ≡ false
    by None e = absurd cc
    by (Some told) e = refl

pub refuses_so : (r : Refusal) (reply : Reply) → IsRefusalOf r reply → (IsRefusal : Refusal → Type 0) → IsRefusal r → RefusesAs IsRefusal reply
refuses_so r reply h IsRefusal of = by reply.refused h.refused
  where
    by : (o : Option Told) → option_map (λ (told : Told). told.refusal) o ≡ Some r → IfSome o (λ told. IsRefusal told.refusal)
    by None e = tt
    by (Some told) e = let same : told.refusal ≡ r = cc in subst IsRefusal (sym same) of

pub unrefused : (reply : Reply) (IsRefusal : Refusal → Type 0) → accepts reply ≡ true → RefusesAs IsRefusal reply
unrefused reply IsRefusal e = by reply.refused e
  where
    by : (o : Option Told) → is_none o ≡ true → IfSome o (λ told. IsRefusal told.refusal)
    by None h = tt
    by (Some told) h = absurd cc

-- a filter that refused nothing tells of no refusal, and one whose reply was written tells that of the reply
pub tells_refused : {S : Type 0} (left : S → Option (List ℕ)) (source source_after : S) (IsRefusedSo : List ℕ → Told → Type 0)
    (reply : Reply) (answer : Answer)
    → ((input : List ℕ) × GivesAll (left source) (left source_after) input × IfSome reply.refused (IsRefusedSo input))
    → AnswersRefusal reply answer → TellsRefused left source source_after IsRefusedSo answer
tells_refused left source source_after IsRefusedSo reply answer ok told = by answer.refused told
  where
    by : (refused : Option Told)
        → MatchOption refused (answer.status ≢ Refused) (λ r. (answer.status ≡ Refused) × (reply.refused ≡ Some r))
        → MatchOption refused (answer.status ≢ Refused) (λ r. (answer.status ≡ Refused)
        × (input : List ℕ) × GivesAll (left source) (left source_after) input × IsRefusedSo input r)
    by None h = h
    by (Some r) h = (h.0, ok.0, ok.1, subst (λ o. IfSome o (IsRefusedSo ok.0)) h.1 ok.2)

module _ {S K : Type 0} (left : S → Option (List ℕ)) (held : K → Option (List ℕ)) (calls : K → Option ℕ)
    (AcceptedWith RefusedWith : List ℕ → List ℕ → Type 0) (source source_after : S) where
  -- a filter that wrote nothing
  pub answers_nothing : (sink : K) (status : Status) → ((input text : List ℕ) → RefusedWith input text → 0 < length text)
      → WritesNothing status
      → AnswersFor left held calls source source_after sink sink AcceptedWith RefusedWith status
  answers_nothing sink status some none = record {
    done = λ e. absurd (subst WritesNothing e none);
    refused = λ e. absurd (subst WritesNothing e none);
    refusal = λ input text of had whole. absurd (not_whole (held sink) text (some input text of) whole);
    part = λ e. absurd (subst WritesNothing e none);
  }

  -- a filter whose reply was written, whole or a part of it
  module _ (sink sink_after : K) (reply : Reply) (status : Status)
      (ok : (input : List ℕ) × GivesAll (left source) (left source_after) input
      × AnswersAs (AcceptedWith input) (RefusedWith input) reply)
      (written : ¬ WritesNothing status)
      (done : status ≡ Done → (accepts reply ≡ true) × Appends (held sink) (held sink_after) reply.text.items)
      (refused : status ≡ Refused → (accepts reply ≡ false) × Appends (held sink) (held sink_after) reply.text.items) where
    -- it replied to this input
    abbrev Replied : List ℕ → Type 0
    Replied input = AnswersAs (AcceptedWith input) (RefusedWith input) reply

    -- that was the one that the source had
    had_reply : (input : List ℕ) → left source ≡ Some input → Replied input
    had_reply input had =
        subst (λ before. IfSome before Replied) had
        (Consumes-whole (left source) (left source_after) ok.0 Replied ok.1.0 ok.1.1 ok.2)

    -- it is answered, where the sink doesn't fail
    pub answers_input : (Accepted : Type 0) (input : List ℕ) → left source ≡ Some input
        → (AcceptedWith input reply.text.items → Accepted) → (RefusedWith input reply.text.items → ¬ Accepted)
        → (status ≡ SinkFault → ⊥) → Answers Accepted status
    answers_input Accepted input had accepts refuses unfailing =
        let replies = had_reply input had in
        answered Accepted status written (λ e. accepts (rw (done e).0 at replies)) (λ e. refuses (rw (refused e).0 at replies))
        unfailing

    -- the input with the reply's text
    with_text : {IsText : List ℕ → List ℕ → Type 0} {SinkIsGiven : List ℕ → Type 0} → IsText ok.0 reply.text.items
        → SinkIsGiven reply.text.items → AnswersInput (left source) (left source_after) IsText SinkIsGiven
    with_text is_text given = record {
      input = ok.0;
      given = ok.1;
      text = reply.text.items;
      is_text = is_text;
      written = given;
    }

    pub answers_reply : AreVerdicts AcceptedWith RefusedWith → CallsWithin (length reply.text.items) (calls sink) (calls sink_after)
        → (status ≡ SinkFault → AppendsPart (held sink) (held sink_after) reply.text.items)
        → AnswersFor left held calls source source_after sink sink_after AcceptedWith RefusedWith status
    answers_reply verdicts within part = record {
      done = λ e. with_text (rw (done e).0 at ok.2) ((done e).1, within);
      refused = λ e. with_text (rw (refused e).0 at ok.2) ((refused e).1, within);
      refusal = λ input text of had whole.
          let told = by_refusal AcceptedWith RefusedWith verdicts input text reply.text.items of (accepts reply) (had_reply input had) in
          only_refused status written
          (λ e. let clash : true ≡ false = sym (done e).0 ∙ told.0 in absurd cc)
          (λ e. not_part (held sink) (held sink_after) text
          (subst (λ t. AppendsPart (held sink) (held sink_after) t) told.1 (part e)) whole);
      part = λ e. with_text (by_accepted (AcceptedWith ok.0 reply.text.items) (RefusedWith ok.0 reply.text.items) (accepts reply) ok.2)
          (part e, within);
    }
