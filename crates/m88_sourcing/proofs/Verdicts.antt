-- An input is accepted, or refused for one reason, never both; it is one image and has one text.
use Rattle.std.proofs.Common.{◌≡◌, ◌∙◌, ℕ, ◌+◌, ◌-◌, ◌<◌, ◌^◌, Bool, true, false, List, [], None, Option, Some, ap, arith, inl, inr, length, refl, get_or, slice_get, subst, sym, IfSome}
use Rattle.std.specs.Prelude.{Err, IfOk, MatchBool, Ok, Result}
use Rattle.std.proofs.lemmas.Bool.{cases_lt}
use Rattle.std.proofs.lemmas.Option.{slice_get-get_or}
use Rattle.m88_base.proofs.Laws.{AreVerdicts, byte_in_at, denies, refuses_so, same_images, told_once}
use Rattle.m88_base.specs.Image.{IsImage, ProgramImage, byte_at}
use Rattle.m88_base.specs.OneVerdict.{HasOneFaultUnless}
use Rattle.m88_base.specs.Reply.{AnswersAs, IsRefusalOf, RefusesAs, accepts}
use Rattle.m88_base.specs.Placed.{byte_in}
use Rattle.m88_base.specs.Refusal.{Refusal, refusal_line}
use Rattle.m88_base.specs.declared.failing.NoMemory.{NoMemory}
use Rattle.m88_base.specs.declared.refused.Refused.{Refused}
use Rattle.m88_base.specs.declared.reply.Reply.{Reply}
use Rattle.m88_srec.proofs.Laws.{one_records_refusal, verdict_takes}
use Rattle.m88_srec.specs.Accepted.{Whole, whole_of}
use Rattle.m88_sourcing.specs.Answer.{AsAsked, IsToldOf, Sources, SourcesAccepted, SourcesRefused}
use Rattle.m88_sourcing.specs.Inputs.{IsAcceptedIn, IsImageIn, IsRefusedIn, binary_refusal}
use Rattle.m88_sourcing.specs.Inside.Replies.{SourcesAs}
use Rattle.m88_sourcing.specs.Request.{Asks, Request}
use Rattle.m88_sourcing.specs.Said.{said_of}
use Rattle.m88_sourcing.specs.Source.{IsSource}
use Rattle.m88_sourcing.specs.declared.request.Binary.{Binary}
use Rattle.m88_sourcing.proofs.OneSource.{one_source}

-- an image has no byte past the last address
none_past : (image : ProgramImage) (at : ℕ) (bytes : List ℕ) → IsImage image → at < 2 ^ 32
    → ((a : ℕ) → byte_at image a ≡ byte_in (record { at = at; bytes = bytes }) a) → 2 ^ 32 < at + length bytes → ⊥
none_past image at bytes is low found past =
    let k : ℕ = 2 ^ 32 - at in
    let within : k < length bytes = omega (arith, low, past) in
    let here : at + k - at ≡ k = omega arith in
    let b : ℕ = get_or bytes k 0 in
    let there : byte_at image (at + k) ≡ Some b =
    found (at + k) ∙ byte_in_at (record { at = at; bytes = bytes }) (at + k) (omega arith)
    ∙ ap (slice_get bytes) here ∙ slice_get-get_or bytes k 0 within in
    let bound : (at + k < 2 ^ 32) × (b < 256) =
    subst (λ (o : Option ℕ). IfSome o (λ c. (at + k < 2 ^ 32) × (c < 256))) there (is.bytes (at + k)) in
    let f = bound.0 in
    absurd (omega (arith, f, low))

pub accepted_in : (binary : Option Binary) (input : List ℕ) (image : ProgramImage) → IsImageIn binary input image
    → IsAcceptedIn binary input
accepted_in None input image is = (whole_of image, is.1)
accepted_in (Some binary) input image is = λ past. none_past image binary.at input is.0 is.1.low is.1.found past

-- a binary reaches past the last address or doesn't
of_binary : (binary : Binary) (input : List ℕ)
    → HasOneFaultUnless (IsAcceptedIn (Some binary) input) (IsRefusedIn (Some binary) input)
of_binary binary input = told_once (IsRefusedIn (Some binary) input)
    (elim (cases_lt (2 ^ 32) (binary.at + length input)) [
      | inl past ↦ inr (binary_refusal, (past, refl))
      | inr within ↦ inl (λ past. absurd (omega (arith, past, within)))
    ])
    (λ r accepted refused. accepted refused.0) (λ r s a b. a.1 ∙ sym b.1)

pub one_verdict_in : (binary : Option Binary) (input : List ℕ)
    → HasOneFaultUnless (IsAcceptedIn binary input) (IsRefusedIn binary input)
one_verdict_in None input = one_records_refusal input
one_verdict_in (Some binary) input = of_binary binary input

pub not_both : (binary : Option Binary) (input : List ℕ) (r : Refusal) → IsAcceptedIn binary input
    → IsRefusedIn binary input r → ⊥
not_both binary input r accepted refused = (one_verdict_in binary input).not_both tt r accepted refused

one_image : (binary : Option Binary) (input : List ℕ) (i j : ProgramImage) → IsImageIn binary input i
    → IsImageIn binary input j → i ≡ j
one_image None input i j a b =
    let one = verdict_takes input (whole_of i) a.1 in
    let two = verdict_takes input (whole_of j) b.1 in
    let whole : whole_of i ≡ whole_of j = cc in
    same_images i j a.0.apart b.0.apart (ap (λ (w : Whole). w.start) whole) (λ n. ap (λ (w : Whole). w.found n) whole)
one_image (Some binary) input i j a b =
    same_images i j a.0.apart b.0.apart (a.1.start ∙ sym b.1.start) (λ n. a.1.found n ∙ sym (b.1.found n))

pub one_answer : (request : Request) (input a b : List ℕ) → Sources request input a → Sources request input b → a ≡ b
one_answer request input a b (inl x) (inl y) =
    one_source (λ _. []) x.image (said_of request.hints) a b x.is_source
    (subst (λ (i : ProgramImage). IsSource i (said_of request.hints) b)
    (one_image request.binary input y.image x.image y.is_image x.is_image) y.is_source)
one_answer request input a b (inl x) (inr y) =
    absurd (not_both request.binary input y.refusal (accepted_in request.binary input x.image x.is_image) y.refused)
one_answer request input a b (inr x) (inl y) =
    absurd (not_both request.binary input x.refusal (accepted_in request.binary input y.image y.is_image) x.refused)
one_answer request input a b (inr x) (inr y) =
    x.is_text ∙ ap refusal_line ((one_verdict_in request.binary input).one_fault x.refusal y.refusal x.refused y.refused) ∙ sym y.is_text

-- a refusal has a byte
pub sourced_some : (words : List (List ℕ)) (input text : List ℕ) → AsAsked words SourcesRefused input text → 0 < length text
sourced_some words input text h =
    let some : 0 < length (refusal_line h.is_text.refusal) = omega arith in
    subst (λ (t : List ℕ). 0 < length t) (sym h.is_text.is_text) some

-- where words ask for one thing, an input isn't accepted and refused, and one that is refused has one text
pub source_verdicts : (words : List (List ℕ)) (known : Request) → ((r : Request) → Asks words r → known ≡ r)
    → AreVerdicts (AsAsked words SourcesAccepted) (AsAsked words SourcesRefused)
source_verdicts words known only = record {
  not_both = λ input a b accepted refused.
      let same : accepted.request ≡ refused.request = sym (only accepted.request accepted.asked) ∙ only refused.request refused.asked in
      let told = subst (λ (r : Request). SourcesAccepted r input a) same accepted.is_text in
      not_both refused.request.binary input refused.is_text.refusal
      (accepted_in refused.request.binary input told.image told.is_image) refused.is_text.refused;
  one_refusal = λ input a b x y.
      let same : x.request ≡ y.request = sym (only x.request x.asked) ∙ only y.request y.asked in
      one_answer y.request input a b (inr (subst (λ (r : Request). SourcesRefused r input a) same x.is_text)) (inr y.is_text);
}

-- a reply to what is asked is one to the words
by_words : (words : List (List ℕ)) (request : Request) (input text : List ℕ) → Asks words request → (accepted : Bool)
    → MatchBool accepted (SourcesAccepted request input text) (SourcesRefused request input text)
    → MatchBool accepted (AsAsked words SourcesAccepted input text) (AsAsked words SourcesRefused input text)
by_words words request input text asks true h = record { request = request; asked = asks; is_text = h }
by_words words request input text asks false h = record { request = request; asked = asks; is_text = h }

pub reply_sourced : (words : List (List ℕ)) (request : Request) (input : List ℕ) (reply : Reply) → Asks words request
    → AnswersAs (SourcesAccepted request input) (SourcesRefused request input) reply
    → AnswersAs (AsAsked words SourcesAccepted input) (AsAsked words SourcesRefused input) reply
reply_sourced words request input reply asks h = by_words words request input reply.text.items asks (accepts reply) h

-- and so is its refusal
pub reply_told : (words : List (List ℕ)) (request : Request) (input : List ℕ) (reply : Reply) → Asks words request
    → RefusesAs (IsRefusedIn request.binary input) reply → IfSome reply.refused (IsToldOf words input)
reply_told words request input reply asks h = by reply.refused h
  where
    by : (o : Option Refused) → IfSome o (λ told. IsRefusedIn request.binary input told.refusal) → IfSome o (IsToldOf words input)
    by None h = tt
    by (Some told) h = record { request = request; asked = asks; refused = h }

-- the replies to an input that is read, where there was memory for one
pub refused_as : (request : Request) (input : List ℕ) (r : Refusal) (result : Result Reply NoMemory)
    → IsRefusedIn request.binary input r → IfOk result (IsRefusalOf r) → IfOk result (SourcesAs request input)
refused_as request input r (Err e) refused is = tt
refused_as request input r (Ok reply) refused is = (
  rw (denies r reply is) (record { refusal = r; refused = refused; is_text = is.line }),
  refuses_so r reply is (IsRefusedIn request.binary input) refused,
)
