-- The word behind `fixed` writes places.
use Rattle.std.proofs.Common.{◌≡◌, ◌∙◌, ◌∷◌, ℕ, List, Some, refl, subst, sym}
use Rattle.std.specs.Prelude.{codes}
use Rattle.m88_base.specs.Words.{texts}
use Rattle.m88_sourcing.specs.Hints.{BeginWith}
use Rattle.m88_sourcing.specs.Places.{IsPlacesWord}
use Rattle.m88_sourcing.specs.declared.hint.Hint.TheVariants.{Fixes}
use Rattle.m88_sourcing.specs.Hints.BeginWith.{fixed}
use Rattle.m88_sourcing.proofs.Hinted.{of_fixed}
use Rattle.m88_sourcing.proofs.hint.fixed_hint.Goals as goal

pub returns : goal.returns
returns c = record {
  found = subst (λ (ws : List (List ℕ)). BeginWith (codes "fixed" ∷ ws) (Fixes c.in_ok-places.places) (texts c.in_ok-word.rest.now))
      (sym c.in_ok-word.ensures.found)
      (fixed (subst (λ (w : List ℕ). IsPlacesWord w c.in_ok-places.places) c.as_bytes.ensures.value c.in_ok-places.ensures.found));
  only = λ hint others b.
      let s = of_fixed _ (texts c.args.words.now) others hint refl b in
      let are = c.in_ok-word.ensures.found in let same = s.behind_is in let value = c.as_bytes.ensures.value in
      let first : s.word ≡ c.as_bytes.result.now = cc in
      let places : Some c.in_ok-places.places ≡ Some s.places =
      sym c.in_ok-places.was ∙ c.places_in.ensures.only s.places (subst (λ (w : List ℕ). IsPlacesWord w s.places) first s.is) in
      let fixes : Fixes c.in_ok-places.places ≡ Fixes s.places = cc in
      (fixes ∙ sym s.hint_is, cc);
  within = c.in_ok-places.ensures.within;
}
