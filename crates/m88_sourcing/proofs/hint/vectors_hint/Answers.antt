-- The words behind `vectors` write an address and a count.
use Rattle.std.proofs.Common.{◌≡◌, ◌∙◌, ◌∷◌, ℕ, List, Some, ap, refl, subst, sym}
use Rattle.std.specs.Prelude.{codes}
use Rattle.m88_base.specs.Words.{texts}
use Rattle.m88_sourcing.specs.Hints.{AreVectors, BeginWith, vectors_from}
use Rattle.m88_sourcing.specs.Places.{AreWithin, IsNumberWord}
use Rattle.m88_sourcing.specs.declared.hint.Hint.TheVariants.{Fixes}
use Rattle.m88_sourcing.specs.declared.place.Places.{Places}
use Rattle.m88_sourcing.specs.Hints.BeginWith.{vectors}
use Rattle.m88_sourcing.proofs.Hinted.{none_read, of_vectors}
use Rattle.m88_sourcing.proofs.hint.vectors_hint.Goals as goal

pub returns-in_err-at : goal.returns-in_err-at
returns-in_err-at c = none_read _ _ c.from_residual-in_err-at.ensures (λ hint others b.
    let s = of_vectors _ (texts c.args.words.now) others hint refl b in
    let are = c.in_ok-first.ensures.found in let same = s.behind_is in let value = c.as_bytes.ensures.value in
    let first : s.first ≡ c.as_bytes.result.now = cc in
    let found = c.number.ensures.only s.at (subst (λ (w : List ℕ). IsNumberWord w s.at) first s.is_at) in
    let none = c.in_err-at.was in absurd cc)

pub returns-in_err-count : goal.returns-in_err-count
returns-in_err-count c = none_read _ _ c.from_residual-in_err-count.ensures (λ hint others b.
    let s = of_vectors _ (texts c.args.words.now) others hint refl b in
    let are = c.in_ok-first.ensures.found in let others_are = c.in_ok-second.ensures.found in
    let same = s.behind_is in let value = c.as_bytes-2.ensures.value in
    let second : s.second ≡ c.as_bytes-2.result.now = cc in
    let found = c.number-2.ensures.only s.count (subst (λ (w : List ℕ). IsNumberWord w s.count) second s.is_count) in
    let none = c.in_err-count.was in absurd cc)

pub returns-in_err-places : goal.returns-in_err-places
returns-in_err-places c = none_read _ _ c.from_residual-in_err-places.ensures (λ hint others b.
    let s = of_vectors _ (texts c.args.words.now) others hint refl b in
    let are = c.in_ok-first.ensures.found in let others_are = c.in_ok-second.ensures.found in
    let same = s.behind_is in let value = c.as_bytes.ensures.value in let value_2 = c.as_bytes-2.ensures.value in
    let first : s.first ≡ c.as_bytes.result.now = cc in
    let second : s.second ≡ c.as_bytes-2.result.now = cc in
    let at_found : Some c.in_ok-at.at ≡ Some s.at =
    sym c.in_ok-at.was ∙ c.number.ensures.only s.at (subst (λ (w : List ℕ). IsNumberWord w s.at) first s.is_at) in
    let count_found : Some c.in_ok-count.count ≡ Some s.count =
    sym c.in_ok-count.was
    ∙ c.number-2.ensures.only s.count (subst (λ (w : List ℕ). IsNumberWord w s.count) second s.is_count) in
    let at : s.at ≡ c.in_ok-at.at = cc in
    let count : s.count ≡ c.in_ok-count.count = cc in
    let found =
    c.vectors.ensures.only (subst (AreVectors c.in_ok-at.at) count (subst (λ (a : ℕ). AreVectors a s.count) at s.are)) in
    let none = c.in_err-places.was in absurd cc)

pub returns : goal.returns
returns c =
    let are = c.in_ok-first.ensures.found in let others_are = c.in_ok-second.ensures.found in
    let words : texts c.args.words.now ≡ c.in_ok-first.first.now ∷ c.in_ok-second.second.now ∷ texts c.in_ok-second.rest.now = cc in
    let vectors_found = c.in_ok-places.ensures.found in record {
      found = subst (λ (ws : List (List ℕ)). BeginWith (codes "vectors" ∷ ws) (Fixes c.in_ok-places.places) (texts c.in_ok-second.rest.now))
          (sym words)
          (subst (λ (p : Places). BeginWith (codes "vectors" ∷ c.in_ok-first.first.now ∷ c.in_ok-second.second.now ∷ texts c.in_ok-second.rest.now) (Fixes p) (texts c.in_ok-second.rest.now))
          (sym vectors_found.1)
          (vectors (subst (λ (w : List ℕ). IsNumberWord w c.in_ok-at.at) c.as_bytes.ensures.value c.in_ok-at.ensures.found)
          (subst (λ (w : List ℕ). IsNumberWord w c.in_ok-count.count) c.as_bytes-2.ensures.value c.in_ok-count.ensures.found)
          vectors_found.0));
      only = λ hint others b.
          let s = of_vectors _ (texts c.args.words.now) others hint refl b in
          let same = s.behind_is in let value = c.as_bytes.ensures.value in let value_2 = c.as_bytes-2.ensures.value in
          let first : s.first ≡ c.as_bytes.result.now = cc in
          let second : s.second ≡ c.as_bytes-2.result.now = cc in
          let at_found : Some c.in_ok-at.at ≡ Some s.at =
          sym c.in_ok-at.was ∙ c.number.ensures.only s.at (subst (λ (w : List ℕ). IsNumberWord w s.at) first s.is_at) in
          let count_found : Some c.in_ok-count.count ≡ Some s.count =
          sym c.in_ok-count.was
          ∙ c.number-2.ensures.only s.count (subst (λ (w : List ℕ). IsNumberWord w s.count) second s.is_count) in
          let at : c.in_ok-at.at ≡ s.at = cc in
          let count : c.in_ok-count.count ≡ s.count = cc in
          let places : c.in_ok-places.places ≡ vectors_from s.at s.count =
          vectors_found.1 ∙ (λ i. vectors_from (at i) (count i)) in
          (ap Fixes places ∙ sym s.hint_is, cc);
      within = subst AreWithin (sym vectors_found.1) vectors_found.0.within;
    }
