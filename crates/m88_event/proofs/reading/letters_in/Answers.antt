-- A dash is no letter, so that a text has one way at most.
use Rattle.std.specs.Prelude.{Some}
use Rattle.std.proofs.Common.{ap, sym, subst, ◌∙◌, inl, inr, refl}
use Rattle.m88_event.proofs.Letters.{dash_is_none}
use Rattle.m88_event.specs.Letters.{AreLettersIn, HasLetters}
use Rattle.m88_event.proofs.reading.letters_in.Goals as goal

pub returns-then-is_dash-clause-only : goal.returns-then-is_dash-clause-only
returns-then-is_dash-clause-only c = λ letters there.
    let dash = c.is_dash.ensures.0 c.if-is_dash.true in
    elim there [
      | inl none ↦ ap Some (sym none.1)
      | inr some ↦ absurd (dash_is_none c.args.others.now c.requires
          (subst (HasLetters c.args.others.now) (sym c.as_bytes-bytes.ensures.value ∙ dash) some.1))
    ]

pub returns-then-are_letters-clause-found : goal.returns-then-are_letters-clause-found
returns-then-are_letters-clause-found c =
    subst (λ text. AreLettersIn c.args.others.now text c.as_bytes-bytes.result.now) c.as_bytes-bytes.ensures.value
    (inr (refl, c.are_letters.ensures.0 c.if-are_letters.true))

pub returns-then-are_letters-clause-only : goal.returns-then-are_letters-clause-only
returns-then-are_letters-clause-only c = λ letters there.
    elim there [
      | inl none ↦ let yes = c.is_dash.ensures.1 (c.as_bytes-bytes.ensures.value ∙ none.0) in
          let no = c.if-is_dash.false in absurd (cc (yes, no))
      | inr some ↦ ap Some (c.as_bytes-bytes.ensures.value ∙ sym some.0)
    ]

pub returns-else-are_letters-clause-only : goal.returns-else-are_letters-clause-only
returns-else-are_letters-clause-only c = λ letters there.
    elim there [
      | inl none ↦ let yes = c.is_dash.ensures.1 (c.as_bytes-bytes.ensures.value ∙ none.0) in
          let no = c.if-is_dash.false in absurd (cc (yes, no))
      | inr some ↦
          let yes = c.are_letters.ensures.1
          (subst (HasLetters c.args.others.now) (sym c.as_bytes-bytes.ensures.value) some.1) in
          let no = c.if-are_letters.false in absurd (cc (yes, no))
    ]
