-- With which hint words begin, by their first word.
use Rattle.std.proofs.Common.{◌≡◌, ◌∙◌, ℕ, false, List, [], ◌∷◌, None, Option, ap, drop, eq-eqb, get_or, refl, subst, sym, true≢false}
use Rattle.std.specs.Prelude.{◌==◌, codes, nat_lt}
use Rattle.std.specs.Char.{digit_value}
use Rattle.m88_sourcing.specs.Hints.{AreVectors, BeginWith, vectors_from}
use Rattle.m88_sourcing.specs.Hints.BeginWith.{entries, fixed, start, vectors}
use Rattle.m88_sourcing.specs.Inside.Hinting.{ReadsHint}
use Rattle.m88_sourcing.specs.Places.{IsNumberWord, IsPlacesWord}
use Rattle.m88_sourcing.specs.declared.hint.Hint.{Hint}
use Rattle.m88_sourcing.specs.declared.hint.Hint.TheVariants.{Enters, Fixes, Starts}
use Rattle.m88_sourcing.specs.declared.hint.Leading.{Leading}
use Rattle.m88_sourcing.specs.declared.place.Places.{Places}
use Rattle.m88_sourcing.proofs.Wording.{places_head}

-- the first of some words
pub first_of : {w v : List ℕ} {ws vs : List (List ℕ)} → w ∷ ws ≡ v ∷ vs → w ≡ v
first_of e = ap (λ (us : List (List ℕ)). get_or us 0 []) e

-- a name of a hint is no word of places
pub no_places : (word name : List ℕ) (p : Places) → word ≡ name → nat_lt (digit_value (get_or name 0 0)) 10 ≡ false
    → IsPlacesWord word p → ⊥
no_places word name p e letter is =
    true≢false (sym (places_head word p is) ∙ ap (λ (w : List ℕ). nat_lt (digit_value (get_or w 0 0)) 10) e ∙ letter)

-- two names whose first letters differ
pub no_other : (a b : List ℕ) (ws vs : List (List ℕ)) → (get_or a 0 0 == get_or b 0 0) ≡ false → a ∷ ws ≡ b ∷ vs → ⊥
no_other a b ws vs differ e =
    let same : get_or a 0 0 ≡ get_or b 0 0 = ap (λ (us : List (List ℕ)). get_or (get_or us 0 []) 0 0) e in
    true≢false (sym (eq-eqb (get_or a 0 0) (get_or b 0 0) same) ∙ differ)

-- what stands behind `fixed`, behind `vectors` and behind `start`, and where none of these stands first
pub record OfFixed (behind : List (List ℕ)) (hint : Hint) (others : List (List ℕ)) : Type 0 where
  pub word : List ℕ
  pub places : Places
  pub is : IsPlacesWord word places
  pub behind_is : behind ≡ word ∷ others
  pub hint_is : hint ≡ Fixes places

pub record OfVectors (behind : List (List ℕ)) (hint : Hint) (others : List (List ℕ)) : Type 0 where
  pub first : List ℕ
  pub second : List ℕ
  pub at : ℕ
  pub count : ℕ
  pub is_at : IsNumberWord first at
  pub is_count : IsNumberWord second count
  pub are : AreVectors at count
  pub behind_is : behind ≡ first ∷ second ∷ others
  pub hint_is : hint ≡ Fixes (vectors_from at count)

pub record OfStart (behind : List (List ℕ)) (hint : Hint) (others : List (List ℕ)) : Type 0 where
  pub word : List ℕ
  pub at : ℕ
  pub is : IsNumberWord word at
  pub behind_is : behind ≡ word ∷ others
  pub hint_is : hint ≡ Starts at

pub record OfEntry (word : List ℕ) (behind : List (List ℕ)) (hint : Hint) (others : List (List ℕ)) : Type 0 where
  pub places : Places
  pub is : IsPlacesWord word places
  pub behind_is : behind ≡ others
  pub hint_is : hint ≡ Enters places

pub of_fixed : (all rest others : List (List ℕ)) (hint : Hint) → all ≡ codes "fixed" ∷ rest → BeginWith all hint others
    → OfFixed rest hint others
of_fixed _ rest others _ e (entries {word = word} {places = places} is) =
    absurd (no_places word (codes "fixed") places (first_of e) refl is)
of_fixed _ rest others _ e (fixed {word = word} {words = words} {places = places} is) = record {
  word = word;
  places = places;
  is = is;
  behind_is = sym (ap (drop 1) e);
  hint_is = refl;
}
of_fixed _ rest others _ e (vectors is_at is_count are) = absurd (no_other (codes "vectors") (codes "fixed") _ _ refl e)
of_fixed _ rest others _ e (start is) = absurd (no_other (codes "start") (codes "fixed") _ _ refl e)

pub of_vectors : (all rest others : List (List ℕ)) (hint : Hint) → all ≡ codes "vectors" ∷ rest → BeginWith all hint others
    → OfVectors rest hint others
of_vectors _ rest others _ e (entries {word = word} {places = places} is) =
    absurd (no_places word (codes "vectors") places (first_of e) refl is)
of_vectors _ rest others _ e (fixed is) = absurd (no_other (codes "fixed") (codes "vectors") _ _ refl e)
of_vectors _ rest others _ e (vectors {first = first} {second = second} {at = at} {count = count} is_at is_count are) = record {
  first = first;
  second = second;
  at = at;
  count = count;
  is_at = is_at;
  is_count = is_count;
  are = are;
  behind_is = sym (ap (drop 1) e);
  hint_is = refl;
}
of_vectors _ rest others _ e (start is) = absurd (no_other (codes "start") (codes "vectors") _ _ refl e)

pub of_start : (all rest others : List (List ℕ)) (hint : Hint) → all ≡ codes "start" ∷ rest → BeginWith all hint others
    → OfStart rest hint others
of_start _ rest others _ e (entries {word = word} {places = places} is) =
    absurd (no_places word (codes "start") places (first_of e) refl is)
of_start _ rest others _ e (fixed is) = absurd (no_other (codes "fixed") (codes "start") _ _ refl e)
of_start _ rest others _ e (vectors is_at is_count are) = absurd (no_other (codes "vectors") (codes "start") _ _ refl e)
of_start _ rest others _ e (start {word = word} {at = at} is) = record {
  word = word;
  at = at;
  is = is;
  behind_is = sym (ap (drop 1) e);
  hint_is = refl;
}

pub of_entry : (all rest others : List (List ℕ)) (word : List ℕ) (hint : Hint) → all ≡ word ∷ rest
    → (word ≡ codes "fixed" → ⊥) → (word ≡ codes "vectors" → ⊥) → (word ≡ codes "start" → ⊥)
    → BeginWith all hint others → OfEntry word rest hint others
of_entry _ rest others word _ e no_fixed no_vectors no_start (entries {word = first} {places = places} is) = record {
  places = places;
  is = subst (λ (w : List ℕ). IsPlacesWord w places) (first_of e) is;
  behind_is = sym (ap (drop 1) e);
  hint_is = refl;
}
of_entry _ rest others word _ e no_fixed no_vectors no_start (fixed is) =
    absurd (no_fixed (sym (first_of e)))
of_entry _ rest others word _ e no_fixed no_vectors no_start (vectors is_at is_count are) =
    absurd (no_vectors (sym (first_of e)))
of_entry _ rest others word _ e no_fixed no_vectors no_start (start is) =
    absurd (no_start (sym (first_of e)))

-- words that begin with no hint
pub none_read : (words : List (List ℕ)) (result : Option Leading) → result ≡ None
    → ((hint : Hint) (others : List (List ℕ)) → BeginWith words hint others → ⊥) → ReadsHint words result
none_read words result e none = subst (ReadsHint words) (sym e)
    (record { found = tt; only = λ hint others b. none hint others b; within = tt })
