-- What is code, what is named by it, and by the entries so far.
use Rattle.std.proofs.Common.{eqb, ◌≡◌, ◌⊎◌, ◌∙◌, ℕ, ◌+◌, ◌<◌, IsTrue, List, [], ◌∷◌, ◌++◌, ap, get_or, inl, inr, length, map, subst, sym, take}
use Rattle.std.specs.Prelude.{◌↔◌, Contains, None}
use Rattle.std.specs.Cmp.{nat_cmp_total, unsigned_tied}
use Rattle.std.specs.List.{dedup}
use Rattle.std.specs.List.Sorted.{IsPermutation, IsSorted, IsStrictlySortedBy}
use Rattle.std.specs.Ordering.{nat_cmp}
use Rattle.std.proofs.lemmas.List.Kept.{Contains-dedup_nat, Contains-from_dedup, IsStrictlySortedBy-dedup}
use Rattle.std.proofs.lemmas.List.Sorted.{Contains-permutation, IsPermutation-sym}
use Rattle.std.proofs.lemmas.List.{map-append, take_more}
use Rattle.std.proofs.lemmas.List.Elements.{Contains-append_left, Contains-push, Contains-push_cases}
use Rattle.std.specs.FinSet.{contains}
use Rattle.m88_base.specs.Image.{ProgramImage, byte_at}
use Rattle.m88_isa.specs.Address.{word_address}
use Rattle.m88_sourcing.specs.Code.{HasInstruction, IsCode, IsReached, seeds_of}
use Rattle.m88_sourcing.specs.Code.IsCode.{in_slot, reached}
use Rattle.m88_sourcing.specs.Code.IsReached.{leads}
use Rattle.m88_sourcing.specs.Inside.Walks.{HasSlot, IsWalkSound, MayLeadTo}
use Rattle.m88_sourcing.specs.Labels.{IsTarget}
use Rattle.m88_sourcing.specs.Said.{Said}
use Rattle.m88_sourcing.specs.Source.{AreFar}
use Rattle.m88_sourcing.specs.declared.reaching.Walk.{Walk}
use Rattle.m88_sourcing.specs.declared.words.Words.{Words}

-- one slot more
pub slot_more : (slots : List ℕ) (index a : ℕ) (Old Had Has Stands : Type 0) → index < length slots
    → Had ↔ (Old ⊎ (Contains (take index slots) a × Stands)) → Has ↔ (Had ⊎ ((a ≡ get_or slots index 0) × Stands))
    → Has ↔ (Old ⊎ (Contains (take (index + 1) slots) a × Stands))
slot_more slots index a Old Had Has Stands low before last =
    let xs : List ℕ = take index slots in
    let y : ℕ = get_or slots index 0 in
    subst (λ (ys : List ℕ). Has ↔ (Old ⊎ (Contains ys a × Stands))) (sym (take_more slots index 0 low)) (
      λ has. elim (last.0 has) [
        | inl had ↦ elim (before.0 had) [
          | inl old ↦ inl old
          | inr there ↦ inr (Contains-append_left xs (y ∷ []) a there.0, there.1)
        ]
        | inr now ↦ inr (subst (λ (b : ℕ). Contains (xs ++ y ∷ []) b) (sym now.0) (Contains-push xs y), now.1)
      ],
      λ h. elim h [
        | inl old ↦ last.1 (inl (before.1 (inl old)))
        | inr there ↦ elim (Contains-push_cases xs y a there.0) [
          | inl old ↦ last.1 (inl (before.1 (inr (old, there.1))))
          | inr same ↦ last.1 (inr (sym same, there.1))
        ]
      ],
    )

-- what a walk has found, with the slots, is the code
pub all_code : (image : ProgramImage) (said : Said) (seeds : List ℕ) (w : Walk) (new : Words) → seeds ≡ seeds_of image said
    → IsWalkSound image seeds w → ((a : ℕ) → IsReached image seeds a → IsTrue (contains w.outline.code a))
    → ((a b : ℕ) → IsTrue (contains w.outline.code a) → HasSlot image a b
    → Contains w.slots.items b ⊎ MayLeadTo image a b)
    → ((a : ℕ) → IsTrue (contains new a)
    ↔ (IsTrue (contains w.outline.code a) ⊎ (Contains w.slots.items a × HasInstruction image a)))
    → (a : ℕ) → IsTrue (contains new a) ↔ IsCode image said a
all_code image said seeds w new seeds_are sound all slots more a = (
  λ has. elim ((more a).0 has) [
    | inl there ↦ reached (from_seeds a (sound.code a there))
    | inr is ↦
        let s = sound.slots a is.0 in
        in_slot s.0 (from_seeds s.0 s.1) (s.2.0, s.2.1, s.2.2, is.1)
  ],
  λ code. (more a).1 (by code),
)
  where
    from_seeds : (b : ℕ) → IsReached image seeds b → IsReached image (seeds_of image said) b
    from_seeds b r = subst (λ (xs : List ℕ). IsReached image xs b) seeds_are r

    by : IsCode image said a → IsTrue (contains w.outline.code a)
        ⊎ (Contains w.slots.items a × HasInstruction image a)
    by (reached r) = inl (all a (subst (λ (xs : List ℕ). IsReached image xs a) (sym seeds_are) r))
    by (in_slot b r is) =
        let from = subst (λ (xs : List ℕ). IsReached image xs b) (sym seeds_are) r in
        elim (slots b a (all b from) (is.0, is.1, is.2)) [
          | inl slot ↦ inr (slot, is.3)
          | inr led ↦ inl (all a (leads from (led.0, led.1, led.2, led.3, is.3)))
        ]

pub with_target : (Has Named Target Other : Type 0) → Has ↔ (Named × Other) → Named ↔ Target → Has ↔ (Target × Other)
with_target Has Named Target Other is named =
    (λ has. let p = is.0 has in (named.0 p.0, p.1), λ p. is.1 (named.1 p.0, p.1))

-- one address more among words
pub word_more : (addresses : List ℕ) (index a : ℕ) (Had Has : Type 0) → index < length addresses
    → Had ↔ Contains (map word_address (take index addresses)) a
    → Has ↔ (Had ⊎ (a ≡ word_address (get_or addresses index 0)))
    → Has ↔ Contains (map word_address (take (index + 1) addresses)) a
word_more addresses index a Had Has low before last =
    let xs : List ℕ = map word_address (take index addresses) in
    let y : ℕ = word_address (get_or addresses index 0) in
    let e : xs ++ y ∷ [] ≡ map word_address (take (index + 1) addresses) =
    sym (ap (map word_address) (take_more addresses index 0 low)
    ∙ map-append word_address (take index addresses) (get_or addresses index 0 ∷ [])) in
    subst (λ (ys : List ℕ). Has ↔ Contains ys a) e (
      λ has. elim (last.0 has) [
        | inl had ↦ Contains-append_left xs (y ∷ []) a (before.0 had)
        | inr now ↦ subst (λ (b : ℕ). Contains (xs ++ y ∷ []) b) (sym now) (Contains-push xs y)
      ],
      λ member. elim (Contains-push_cases xs y a member) [
        | inl old ↦ last.1 (inl (before.1 old))
        | inr same ↦ last.1 (inr (sym same))
      ],
    )

-- one entry more
pub entry_more : (entries : List ℕ) (index a : ℕ) (Old Had Has Code : Type 0) → index < length entries
    → Had ↔ (Old ⊎ (Contains (map word_address (take index entries)) a × Code))
    → Has ↔ (Had ⊎ ((a ≡ word_address (get_or entries index 0)) × Code))
    → Has ↔ (Old ⊎ (Contains (map word_address (take (index + 1) entries)) a × Code))
entry_more entries index a Old Had Has Code low before last =
    let xs : List ℕ = map word_address (take index entries) in
    let y : ℕ = word_address (get_or entries index 0) in
    let e : xs ++ y ∷ [] ≡ map word_address (take (index + 1) entries) =
    sym (ap (map word_address) (take_more entries index 0 low)
    ∙ map-append word_address (take index entries) (get_or entries index 0 ∷ [])) in
    subst (λ (ys : List ℕ). Has ↔ (Old ⊎ (Contains ys a × Code))) e (
      λ has. elim (last.0 has) [
        | inl had ↦ elim (before.0 had) [
          | inl old ↦ inl old
          | inr there ↦ inr (Contains-append_left xs (y ∷ []) a there.0, there.1)
        ]
        | inr now ↦ inr (subst (λ (b : ℕ). Contains (xs ++ y ∷ []) b) (sym now.0) (Contains-push xs y), now.1)
      ],
      λ h. elim h [
        | inl old ↦ last.1 (inl (before.1 (inl old)))
        | inr there ↦ elim (Contains-push_cases xs y a there.0) [
          | inl old ↦ last.1 (inl (before.1 (inr (old, there.1))))
          | inr same ↦ last.1 (inr (sym same, there.1))
        ]
      ],
    )

-- labels are the targets of code, and the entries that are code
pub with_entries : (Has Had Named Target Member Found Code Other : Type 0) → Had ↔ (Named × Other) → Named ↔ Target
    → Found ↔ Code → (Code → Other) → Has ↔ (Had ⊎ (Member × Found)) → Has ↔ (Other × (Target ⊎ (Member × Code)))
with_entries Has Had Named Target Member Found Code Other is named coded some more = (
  λ has. elim (more.0 has) [
    | inl had ↦ let p = is.0 had in (p.1, inl (named.0 p.0))
    | inr entry ↦ let code = coded.0 entry.1 in (some code, inr (entry.0, code))
  ],
  λ p. elim p.1 [
    | inl target ↦ more.1 (inl (is.1 (named.1 target, p.0)))
    | inr entry ↦ more.1 (inr (entry.0, coded.1 entry.1))
  ],
)

-- targets in ascending order, each once
pub sorted_targets : (image : ProgramImage) (said : Said) (old sorted new : List ℕ) → IsPermutation old sorted
    → IsSorted nat_cmp sorted → new ≡ dedup eqb sorted
    → ((t : ℕ) → Contains old t ↔ (IsTarget image said t × (byte_at image t ≡ None))) → AreFar image said new
sorted_targets image said old sorted new moved rising new_is exactly = record {
  ascending =
      subst (λ (xs : List ℕ). IsStrictlySortedBy nat_cmp xs) (sym new_is)
      (IsStrictlySortedBy-dedup nat_cmp_total (λ x y. sym (unsigned_tied x y)) sorted rising);
  exactly = λ t. (
    λ there.
        (exactly t).0
        (Contains-permutation sorted old t (IsPermutation-sym old sorted moved)
        (Contains-from_dedup eqb sorted t (subst (λ (xs : List ℕ). Contains xs t) new_is there))),
    λ is.
        subst (λ (xs : List ℕ). Contains xs t) (sym new_is)
        (Contains-dedup_nat sorted t (Contains-permutation old sorted t moved ((exactly t).1 is))),
  );
}
