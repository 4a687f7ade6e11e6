-- The words behind `at` say the address and the hints that are read of them, and nothing else.
use Rattle.std.proofs.Common.{◌≡◌, ◌∙◌, ◌∷◌, ℕ, List, Some, ap, refl, subst, sym}
use Rattle.std.specs.Prelude.{codes, flat_map}
use Rattle.m88_base.specs.Words.{texts}
use Rattle.m88_sourcing.specs.Inside.Asked.{IsKept}
use Rattle.m88_sourcing.specs.Places.{IsNumberWord}
use Rattle.m88_sourcing.specs.Request.{Asks, Request, SayHints, start_of, starts_in}
use Rattle.m88_sourcing.specs.Request.Asks.{binary}
use Rattle.m88_sourcing.proofs.Asking.{none_asked, of_binary, start_said}
use Rattle.m88_sourcing.proofs.request.binary_request.Goals as goal

pub returns-in_err-word : goal.returns-in_err-word
returns-in_err-word c = none_asked _ _ c.from_residual.ensures (λ wanted asks.
    let b = of_binary _ (texts c.args.words.now) wanted refl asks in
    let none = c.in_err-word.ensures.none refl in
    let some = b.words_are in absurd cc)

pub returns-in_err-at : goal.returns-in_err-at
returns-in_err-at c = none_asked _ _ c.from_residual-in_err-at.ensures (λ wanted asks.
    let b = of_binary _ (texts c.args.words.now) wanted refl asks in
    let are = c.in_ok-word.ensures.found in let same = b.words_are in let value = c.as_bytes.ensures.value in
    let word : b.word ≡ c.as_bytes.result.now = cc in
    let found = c.number.ensures.only b.at (subst (λ (w : List ℕ). IsNumberWord w b.at) word b.is) in
    let none = c.in_err-at.was in absurd cc)

pub returns-in_err-tally : goal.returns-in_err-tally
returns-in_err-tally c = none_asked _ _ c.from_residual-in_err-tally.ensures (λ wanted asks.
    let b = of_binary _ (texts c.args.words.now) wanted refl asks in
    let are = c.in_ok-word.ensures.found in let same = b.words_are in
    let rest : b.rest ≡ texts c.in_ok-word.rest.now = cc in
    c.in_err-tally.ensures.only b.hints (subst (λ (ws : List (List ℕ)). SayHints ws b.hints) rest b.say))

pub returns : goal.returns
returns c =
    let at = c.in_ok-at.at in
    let counted = c.in_ok-tally.ensures.found in
    let start = c.unwrap_or.ensures ∙ start_said at c.in_ok-tally.tally.start (flat_map starts_in counted.0) counted.2.starts in
    let known : Request =
    record { binary = Some (record { at = at; start = start_of at (flat_map starts_in counted.0) }); hints = counted.0 } in
    record {
      found = (
        known,
        subst (λ (ws : List (List ℕ)). Asks (codes "at" ∷ ws) known) (sym c.in_ok-word.ensures.found)
            (binary (subst (λ (w : List ℕ). IsNumberWord w at) c.as_bytes.ensures.value c.in_ok-at.ensures.found) counted.1),
        record { binary = λ i. Some (record { at = at; start = start i }); hints = counted.1.0 },
      );
      only = λ wanted asks.
          let b = of_binary _ (texts c.args.words.now) wanted refl asks in
          let are = c.in_ok-word.ensures.found in let same = b.words_are in let value = c.as_bytes.ensures.value in
          let word : b.word ≡ c.as_bytes.result.now = cc in
          let rest : b.rest ≡ texts c.in_ok-word.rest.now = cc in
          let at_found : Some at ≡ Some b.at =
          sym c.in_ok-at.was ∙ c.number.ensures.only b.at (subst (λ (w : List ℕ). IsNumberWord w b.at) word b.is) in
          let at_is : at ≡ b.at = cc in
          let say = subst (λ (ws : List (List ℕ)). SayHints ws b.hints) rest b.say in
          let wanted_start =
          c.unwrap_or.ensures
          ∙ start_said at c.in_ok-tally.tally.start (flat_map starts_in b.hints) (c.in_ok-tally.ensures.only b.hints say).starts
          ∙ ap (λ (a : ℕ). start_of a (flat_map starts_in b.hints)) at_is in
          subst (IsKept _) (sym b.wanted_is)
          (record { binary = λ i. Some (record { at = at_is i; start = wanted_start i }); hints = say.0 });
      one = λ a b asks other.
          let x = of_binary _ (texts c.args.words.now) a refl asks in
          let y = of_binary _ (texts c.args.words.now) b refl other in
          let are = c.in_ok-word.ensures.found in let x_is = x.words_are in let y_is = y.words_are in
          let value = c.as_bytes.ensures.value in
          let x_word : x.word ≡ c.as_bytes.result.now = cc in
          let y_word : y.word ≡ c.as_bytes.result.now = cc in
          let x_rest : x.rest ≡ texts c.in_ok-word.rest.now = cc in
          let y_rest : y.rest ≡ texts c.in_ok-word.rest.now = cc in
          let x_at = c.number.ensures.only x.at (subst (λ (w : List ℕ). IsNumberWord w x.at) x_word x.is) in
          let y_at = c.number.ensures.only y.at (subst (λ (w : List ℕ). IsNumberWord w y.at) y_word y.is) in
          let at_found : Some x.at ≡ Some y.at = sym x_at ∙ y_at in
          let at_is : x.at ≡ y.at = cc in
          let hints =
          c.in_ok-tally.ensures.one x.hints y.hints (subst (λ (ws : List (List ℕ)). SayHints ws x.hints) x_rest x.say)
          (subst (λ (ws : List (List ℕ)). SayHints ws y.hints) y_rest y.say) in
          x.wanted_is
          ∙ (λ i. record {
            binary = Some (record { at = at_is i; start = start_of (at_is i) (flat_map starts_in (hints i)) });
            hints = hints i;
          })
          ∙ sym y.wanted_is;
    }
