-- Hints that words say in turn, and those that were read of them.
use Rattle.std.proofs.Common.{◌≡◌, ◌∙◌, ◌<◌, ℕ, List, [], ◌∷◌, ◌++◌, None, Some, ap, append-nil, append_assoc, arith, length, refl, subst, sym}
use Rattle.std.specs.declared.alloc.Global.{Global}
use Rattle.std.specs.Prelude.{String, flat_map, string_bytes}
use Rattle.std.proofs.lemmas.Grind.{flat_map-append}
use Rattle.std.proofs.lemmas.List.{length-append, length-map}
use Rattle.std.proofs.lemmas.List.Sums.{sum_by-append}
use Rattle.m88_base.specs.Words.{texts}
use Rattle.m88_sourcing.specs.Hints.{AreHints, BeginWith}
use Rattle.m88_sourcing.specs.Hints.AreHints.{hint, no_word}
use Rattle.m88_sourcing.specs.Hints.BeginWith.{entries, fixed, start, vectors}
use Rattle.m88_sourcing.specs.Inside.Hinting.{ReadsHint}
use Rattle.m88_sourcing.specs.Request.{AreFew, addresses_in, starts_in}
use Rattle.m88_sourcing.specs.declared.hint.Hint.{Hint}
use Rattle.m88_sourcing.specs.declared.hint.Leading.{Leading}

-- some hints were read of words, and others are left: they are what the words say first
pub record AreRead (words left : List (List ℕ)) (hints : List Hint) : Type 0 where
  pub said : (others : List Hint) → AreHints left others → AreHints words (hints ++ others)
  pub only : (all : List Hint) → AreHints words all → (others : List Hint) × AreHints left others × (all ≡ hints ++ others)

pub none_yet : (words : List (List ℕ)) → AreRead words words []
none_yet words = record { said = λ others are. are; only = λ all are. (all, are, refl) }

-- a hint has a word
fewer : (words others : List (List ℕ)) (h : Hint) → BeginWith words h others → length others < length words
fewer _ _ _ (entries is) = omega arith
fewer _ _ _ (fixed is) = omega arith
fewer _ _ _ (vectors is_at is_count are) = omega arith
fewer _ _ _ (start is) = omega arith

-- the words behind a hint are fewer
pub shorter : (words rest : List (String Global)) (h : Hint) → BeginWith (texts words) h (texts rest)
    → length rest < length words
shorter words rest h b =
    omega (arith, fewer (texts words) (texts rest) h b, length-map words string_bytes, length-map rest string_bytes)

-- words that begin with no hint say none, where there are none
pub nothing_first : (words : List (List ℕ)) (hints : List Hint) → ReadsHint words None → AreHints words hints
    → (length words ≡ 0) × (hints ≡ [])
nothing_first _ _ reads no_word = (refl, refl)
nothing_first _ _ reads (hint {others = others} {first = first} begin are) = absurd (reads.only first others begin)

-- those that begin with one say it first
pub hint_first : (words : List (List ℕ)) (hints : List Hint) (x : Leading) → ReadsHint words (Some x) → AreHints words hints
    → (others : List Hint) × AreHints (texts x.rest.now) others × (hints ≡ x.hint ∷ others)
hint_first _ _ x reads no_word = absurd (omega (arith, fewer [] (texts x.rest.now) x.hint reads.found))
hint_first _ _ x reads (hint {others = others} {first = first} {hints = hints} begin are) =
    let same = reads.only first others begin in (
      hints,
      subst (λ (ws : List (List ℕ)). AreHints ws hints) (sym same.1) are,
      ap (λ (h : Hint). h ∷ hints) (sym same.0),
    )

pub one_more_read : (words left : List (List ℕ)) (hints : List Hint) (x : Leading) → AreRead words left hints
    → ReadsHint left (Some x) → AreRead words (texts x.rest.now) (hints ++ x.hint ∷ [])
one_more_read words left hints x so_far reads = record {
  said = λ others are.
      subst (AreHints words) (sym (append_assoc hints (x.hint ∷ []) others))
      (so_far.said (x.hint ∷ others) (hint reads.found are));
  only = λ all are.
      let left_over = so_far.only all are in
      let first = hint_first left left_over.0 x reads left_over.1 in (
        first.0,
        first.1,
        left_over.2 ∙ ap (λ (hs : List Hint). hints ++ hs) first.2 ∙ sym (append_assoc hints (x.hint ∷ []) first.0),
      );
}

-- no word is left
pub all_read : (words : List (List ℕ)) (hints : List Hint) → AreRead words [] hints → AreHints words hints
all_read words hints read = subst (AreHints words) (append-nil hints) (read.said [] no_word)

none_left : (hints : List Hint) → AreHints [] hints → hints ≡ []
none_left _ no_word = refl
none_left _ (hint {others = others} {first = first} begin are) = absurd (omega (arith, fewer [] others first begin))

pub all_only : (words : List (List ℕ)) (hints wanted : List Hint) → AreRead words [] hints → AreHints words wanted
    → hints ≡ wanted
all_only words hints wanted read are =
    let left = read.only wanted are in
    sym (left.2 ∙ ap (λ (hs : List Hint). hints ++ hs) (none_left left.0 left.1) ∙ append-nil hints)

-- the first of a few are few
pub few_first : (hints others : List Hint) → AreFew (hints ++ others) → AreFew hints
few_first hints others few = record {
  few = omega (arith, length-append hints others, few.few);
  addresses = omega (arith, sum_by-append addresses_in hints others, few.addresses);
  starts = omega (
    arith,
    ap (λ (xs : List ℕ). length xs) (flat_map-append starts_in hints others),
    length-append (flat_map starts_in hints) (flat_map starts_in others),
    few.starts,
  );
}

-- with one hint that is too many, no more are few
pub too_many : (words left : List (List ℕ)) (hints all : List Hint) (x : Leading) → AreRead words left hints
    → ReadsHint left (Some x) → ¬ AreFew (hints ++ x.hint ∷ []) → AreHints words all → AreFew all → ⊥
too_many words left hints all x so_far reads many are few =
    let read = one_more_read words left hints x so_far reads in
    let left_over = read.only all are in
    many (few_first (hints ++ x.hint ∷ []) left_over.0 (subst AreFew left_over.2 few))

-- none is few
pub none_few : AreFew []
none_few = record { few = omega arith; addresses = omega arith; starts = omega arith }

-- no word has no text
pub no_text : (words : List (String Global)) → length words ≡ 0 → texts words ≡ []
no_text [] e = refl
no_text (w ∷ ws) e = absurd (omega (arith, e))

-- what one hint more says is behind what the others said
pub one_more_said : (says : Hint → List ℕ) (hints : List Hint) (h : Hint) (so_far : List ℕ) → so_far ≡ flat_map says hints
    → so_far ++ says h ≡ flat_map says (hints ++ h ∷ [])
one_more_said says hints h so_far is =
    ap (λ (xs : List ℕ). xs ++ says h) is
    ∙ ap (λ (xs : List ℕ). flat_map says hints ++ xs) (sym (append-nil (says h)))
    ∙ sym (flat_map-append says hints (h ∷ []))
