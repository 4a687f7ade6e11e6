-- The word behind `start` writes an address.
use Rattle.std.proofs.Common.{◌≡◌, ◌∙◌, ◌∷◌, ℕ, List, Some, refl, subst, sym}
use Rattle.std.specs.Prelude.{codes}
use Rattle.m88_base.specs.Words.{texts}
use Rattle.m88_sourcing.specs.Hints.{BeginWith}
use Rattle.m88_sourcing.specs.Places.{IsNumberWord}
use Rattle.m88_sourcing.specs.declared.hint.Hint.TheVariants.{Starts}
use Rattle.m88_sourcing.specs.Hints.BeginWith.{start}
use Rattle.m88_sourcing.proofs.Hinted.{none_read, of_start}
use Rattle.m88_sourcing.proofs.hint.start_hint.Goals as goal

pub returns-in_err-at : goal.returns-in_err-at
returns-in_err-at c = none_read _ _ c.from_residual-in_err-at.ensures (λ hint others b.
    let s = of_start _ (texts c.args.words.now) others hint refl b in
    let first : s.word ≡ c.as_bytes.result.now =
    let are = c.in_ok-word.ensures.found in let same = s.behind_is in let value = c.as_bytes.ensures.value in cc in
    let found = c.number.ensures.only s.at (subst (λ (w : List ℕ). IsNumberWord w s.at) first s.is) in
    let none = c.in_err-at.was in absurd cc)

pub returns : goal.returns
returns c = record {
  found = subst (λ (ws : List (List ℕ)). BeginWith (codes "start" ∷ ws) (Starts c.in_ok-at.at) (texts c.in_ok-word.rest.now))
      (sym c.in_ok-word.ensures.found)
      (start (subst (λ (w : List ℕ). IsNumberWord w c.in_ok-at.at) c.as_bytes.ensures.value c.in_ok-at.ensures.found));
  only = λ hint others b.
      let s = of_start _ (texts c.args.words.now) others hint refl b in
      let are = c.in_ok-word.ensures.found in let same = s.behind_is in let value = c.as_bytes.ensures.value in
      let first : s.word ≡ c.as_bytes.result.now = cc in
      let at : Some c.in_ok-at.at ≡ Some s.at =
      sym c.in_ok-at.was ∙ c.number.ensures.only s.at (subst (λ (w : List ℕ). IsNumberWord w s.at) first s.is) in
      let starts : Starts c.in_ok-at.at ≡ Starts s.at = cc in
      (starts ∙ sym s.hint_is, cc);
  within = tt;
}
