-- The first word writes places.
use Rattle.std.proofs.Common.{◌≡◌, ◌∙◌, ℕ, List, Some, refl, subst, sym}
use Rattle.m88_base.specs.Words.{texts}
use Rattle.m88_sourcing.specs.Places.{IsPlacesWord}
use Rattle.m88_sourcing.specs.declared.hint.Hint.TheVariants.{Enters}
use Rattle.m88_sourcing.specs.Hints.BeginWith.{entries}
use Rattle.m88_sourcing.proofs.Hinted.{of_entry}
use Rattle.m88_sourcing.proofs.hint.entry_hint.Goals as goal

pub returns : goal.returns
returns c = record {
  found = entries (subst (λ (w : List ℕ). IsPlacesWord w c.in_ok-places.places) c.as_bytes.ensures.value c.in_ok-places.ensures.found);
  only = λ hint others b.
      let s = of_entry _ (texts c.args.rest.now) others c.args.word.now hint refl c.requires.fixed c.requires.vectors c.requires.start b in
      let places : Some c.in_ok-places.places ≡ Some s.places =
      sym c.in_ok-places.was ∙ c.places_in.ensures.only s.places (subst (λ (w : List ℕ). IsPlacesWord w s.places) (sym c.as_bytes.ensures.value) s.is) in
      let enters : Enters c.in_ok-places.places ≡ Enters s.places = cc in
      (enters ∙ sym s.hint_is, s.behind_is);
  within = c.in_ok-places.ensures.within;
}
