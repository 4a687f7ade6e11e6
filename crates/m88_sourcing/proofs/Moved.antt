-- What names stand for where a statement was put behind the word at w: what they stood for, four bytes further on
-- behind it in its piece.
use Rattle.std.proofs.Common.{◌≡◌, ◌⊎◌, ℕ, ◌+◌, ◌<◌, ◌^◌, inl, inr, List, [], ◌∷◌, refl, sym, subst, ◌∙◌, arith, codes}
use Rattle.std.specs.Prelude.{None}
use Rattle.m88_base.specs.Image.{ProgramImage, byte_at}
use Rattle.m88_parse.specs.declared.unit.Statement.{Statement}
use Rattle.m88_disasm.proofs.Laws.{AreLow, HasName, MeanOne, Names, Sets, a_set, names_in, no_set}
use Rattle.m88_sourcing.specs.Code.{IsCode}
use Rattle.m88_sourcing.specs.Insertion.{IsAgainAt}
use Rattle.m88_sourcing.specs.Insertion.IsAgainAt.{carried, stays}
use Rattle.m88_sourcing.specs.Labels.{label_of}
use Rattle.m88_sourcing.specs.Said.{Said}
use Rattle.m88_sourcing.proofs.Bared.{MovesNames}
use Rattle.m88_sourcing.proofs.Names.{IsNameable, NameOnly, NamesOne, named, no_start, one_name}
use Rattle.m88_sourcing.proofs.Cutting.{no_code_there}

-- where the start is found again, where it is code
abbrev pub StartsAt : ProgramImage → Said → ℕ → ℕ → Type 0
StartsAt image said w p =
    (IsCode image said image.start × IsAgainAt image said w image.start p)
    ⊎ ((IsCode image said image.start → ⊥) × (p ≡ image.start))

-- what names stand for
abbrev pub newly : ProgramImage → Said → ℕ → Names
newly image said w name p =
    (p < 2 ^ 32)
    × (((name ≡ codes "_start") × StartsAt image said w p)
    ⊎ ((q : ℕ) × (name ≡ label_of q) × (q < 2 ^ 32) × IsNameable image said q × IsAgainAt image said w q p))

-- an address is found at one
pub found_one : (image : ProgramImage) (said : Said) (w a p q : ℕ) → IsAgainAt image said w a p
    → IsAgainAt image said w a q → p ≡ q
found_one image said w a _ _ (carried h) (carried k) = refl
found_one image said w a _ _ (carried h) (stays k) = absurd (k h)
found_one image said w a _ _ (stays h) (carried k) = absurd (h k)
found_one image said w a _ _ (stays h) (stays k) = refl

pub low_newly : (image : ProgramImage) (said : Said) (w : ℕ) → AreLow (newly image said w)
low_newly image said w name p h = h.0

one_start : (image : ProgramImage) (said : Said) (w p q : ℕ) → StartsAt image said w p
    → StartsAt image said w q → p ≡ q
one_start image said w p q (inl h) (inl k) = found_one image said w image.start p q h.1 k.1
one_start image said w p q (inl h) (inr k) = absurd (k.0 h.0)
one_start image said w p q (inr h) (inl k) = absurd (h.0 k.0)
one_start image said w p q (inr h) (inr k) = h.1 ∙ sym k.1

pub one_newly : (image : ProgramImage) (said : Said) (w : ℕ) → MeanOne (newly image said w)
one_newly image said w name a b h k = by h.1 k.1
  where
    Is : ℕ → Type 0
    Is p =
        ((name ≡ codes "_start") × StartsAt image said w p)
        ⊎ ((q : ℕ) × (name ≡ label_of q) × (q < 2 ^ 32) × IsNameable image said q × IsAgainAt image said w q p)

    by : Is a → Is b → a ≡ b
    by (inl x) (inl y) = one_start image said w a b x.1 y.1
    by (inl x) (inr y) = absurd (no_start y.0 (sym y.1 ∙ x.0))
    by (inr x) (inl y) = absurd (no_start x.0 (sym x.1 ∙ y.0))
    by (inr x) (inr y) =
        let same : x.0 ≡ y.0 = one_name x.0 y.0 x.2 y.2 (sym x.1 ∙ y.1) in
        found_one image said w y.0 a b (subst (λ (q : ℕ). IsAgainAt image said w q a) same x.4) y.4

-- names of addresses of a kind move with them
pub moved_name : (image : ProgramImage) (said : Said) (w n : ℕ) (K : ℕ → Type 0) (S : Type 0) (name : List ℕ)
    (a : ℕ)
    → ((b : ℕ) → K b → IsAgainAt image said w b (b + n)) → ((b : ℕ) → K b → b + n < 2 ^ 32)
    → (S → K image.start × IsCode image said image.start)
    → NamesOne K S name → named image said name a → newly image said w name (a + n)
moved_name image said w n K S name a found low start only old = by only old.1
  where
    by : NamesOne K S name
        → (((name ≡ codes "_start") × (a ≡ image.start)) ⊎ ((name ≡ label_of a) × IsNameable image said a))
        → newly image said w name (a + n)
    by (inl x) (inl y) =
        let is = start x.1 in
        subst (λ (b : ℕ). newly image said w name (b + n)) (sym y.1)
        (low image.start is.0, inl (x.0, inl (is.1, found image.start is.0)))
    by (inl x) (inr y) = absurd (no_start a (sym y.0 ∙ x.0))
    by (inr x) (inl y) = absurd (no_start x.0 (sym x.1 ∙ y.0))
    by (inr x) (inr y) =
        let same : x.0 ≡ a = one_name x.0 a x.2 old.0 (sym x.1 ∙ y.0) in
        let is : K a = subst K same x.3 in
        (low a is, inr (a, y.0, old.0, y.1, found a is))

-- of the names that are given some are each so
only_one : (K : ℕ → Type 0) (S : Type 0) (names : List (List ℕ)) (name : List ℕ) → NameOnly K S names
    → HasName name names → NamesOne K S name
only_one K S [] name only has = absurd has
only_one K S (n ∷ names) name only (inl same) = subst (NamesOne K S) same only.0
only_one K S (n ∷ names) name only (inr has) = only_one K S names name only.1 has

pub moves_names : (image : ProgramImage) (said : Said) (w n : ℕ) (K L : ℕ → Type 0) (S : Type 0)
    (xs : List Statement)
    → ((b : ℕ) → K b → IsAgainAt image said w b (b + n)) → ((b : ℕ) → K b → b + n < 2 ^ 32)
    → ((b : ℕ) → L b → K b) → (S → K image.start × IsCode image said image.start)
    → NameOnly L S (names_in xs) → MovesNames (named image said) (newly image said w) n xs
moves_names image said w n K L S xs found low less start only name a has old =
    moved_name image said w n K S name a found low start (by (only_one L S (names_in xs) name only has)) old
  where
    by : NamesOne L S name → NamesOne K S name
    by (inl x) = inl x
    by (inr x) = inr (x.0, x.1, x.2, less x.0 x.3)

-- values stay
far_found : (image : ProgramImage) (said : Said) (w a : ℕ) → byte_at image a ≡ None
    → IsAgainAt image said w a a
far_found image said w a none =
    stays (λ c. no_code_there image said a none (c.1 a (let x = c.0 in omega (arith, x)) (omega arith)))

pub moved_value : (image : ProgramImage) (said : Said) (w : ℕ) (name : List ℕ) (a : ℕ)
    → NamesOne (λ b. byte_at image b ≡ None) (IsCode image said image.start → ⊥) name → named image said name a
    → newly image said w name a
moved_value image said w name a only old = by only old.1
  where
    by : NamesOne (λ b. byte_at image b ≡ None) (IsCode image said image.start → ⊥) name
        → (((name ≡ codes "_start") × (a ≡ image.start)) ⊎ ((name ≡ label_of a) × IsNameable image said a))
        → newly image said w name a
    by (inl x) (inl y) = (old.0, inl (x.0, inr (x.1, y.1)))
    by (inl x) (inr y) = absurd (no_start a (sym y.0 ∙ x.0))
    by (inr x) (inl y) = absurd (no_start x.0 (sym x.1 ∙ y.0))
    by (inr x) (inr y) =
        let same : x.0 ≡ a = one_name x.0 a x.2 old.0 (sym x.1 ∙ y.0) in (
          old.0,
          inr (
            a,
            y.0,
            old.0,
            y.1,
            far_found image said w a
                (subst (λ (b : ℕ). byte_at image b ≡ None) same x.3),
          ),
        )

pub moved_sets : (image : ProgramImage) (said : Said) (w : ℕ) (sets : List Statement)
    → NameOnly (λ b. byte_at image b ≡ None) (IsCode image said image.start → ⊥) (names_in sets)
    → Sets (named image said) sets → Sets (newly image said w) sets
moved_sets image said w _ only no_set = no_set
moved_sets image said w _ only (a_set {xs = xs} n name col value is others) =
    a_set n name col value (moved_value image said w name value only.0 is)
    (moved_sets image said w xs only.1 others)
