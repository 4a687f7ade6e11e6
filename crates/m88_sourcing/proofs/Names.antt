-- The names of a source: each stands for one address, and comes once.
use Rattle.std.proofs.Common.{◌≡◌, ◌⊎◌, ℕ, ◌<◌, ◌^◌, Bool, true, false, inl, inr, List, [], ◌∷◌, ◌++◌, get_or, refl, sym, ap, subst, ◌∙◌, arith, append-nil, append_assoc, codes, drop}
use Rattle.std.specs.Prelude.{None, bytes_eq}
use Rattle.std.specs.List.{AllByRecursion}
use Rattle.std.specs.Str.Parse.{digits_value}
use Rattle.std.proofs.lemmas.Slice.Eq.{bytes_eq-Decides}
use Rattle.m88_base.specs.Image.{ProgramImage, byte_at}
use Rattle.m88_base.proofs.Laws.{value_of_hex8}
use Rattle.m88_disasm.proofs.Laws.{AreLow, AreOnce, HasName, IsNew, MeanOne, Names}
use Rattle.m88_sourcing.specs.Labels.{HasLabel, IsTarget, label_of}
use Rattle.m88_sourcing.specs.Said.{Said}

-- an address has a name: a label, or a value where no byte is
abbrev pub IsNameable : ProgramImage → Said → ℕ → Type 0
IsNameable image said a = HasLabel image said a ⊎ (IsTarget image said a × (byte_at image a ≡ None))

-- what the names of a source stand for
abbrev pub named : ProgramImage → Said → Names
named image said name a =
    (a < 2 ^ 32)
    × (((name ≡ codes "_start") × (a ≡ image.start)) ⊎ ((name ≡ label_of a) × IsNameable image said a))

-- names tell their addresses
pub one_name : (a b : ℕ) → a < 2 ^ 32 → b < 2 ^ 32 → label_of a ≡ label_of b → a ≡ b
one_name a b low small e =
    sym (value_of_hex8 a low) ∙ ap (λ (xs : List ℕ). digits_value 16 (drop 1 xs)) e ∙ value_of_hex8 b small

pub no_start : (a : ℕ) → label_of a ≡ codes "_start" → ⊥
no_start a e =
    let f : get_or (label_of a) 0 0 ≡ get_or (codes "_start") 0 0 = ap (λ (xs : List ℕ). get_or xs 0 0) e in
    absurd (omega (arith, f))

pub are_low : (image : ProgramImage) (said : Said) → AreLow (named image said)
are_low image said name a h = h.0

pub mean_one : (image : ProgramImage) (said : Said) → MeanOne (named image said)
mean_one image said name a b h k = by h.1 k.1
  where
    by : (((name ≡ codes "_start") × (a ≡ image.start)) ⊎ ((name ≡ label_of a) × IsNameable image said a))
        → (((name ≡ codes "_start") × (b ≡ image.start)) ⊎ ((name ≡ label_of b) × IsNameable image said b)) → a ≡ b
    by (inl x) (inl y) = x.1 ∙ sym y.1
    by (inl x) (inr y) = absurd (no_start b (sym y.0 ∙ x.0))
    by (inr x) (inl y) = absurd (no_start a (sym x.0 ∙ y.0))
    by (inr x) (inr y) = one_name a b h.0 k.0 (sym x.0 ∙ y.0)

-- a name is `_start`, where that is so, or that of an address of a kind
abbrev pub NamesOne : (ℕ → Type 0) → Type 0 → List ℕ → Type 0
NamesOne Kind Start name =
    ((name ≡ codes "_start") × Start) ⊎ ((a : ℕ) × (name ≡ label_of a) × (a < 2 ^ 32) × Kind a)

-- so is each
abbrev pub NameOnly : (ℕ → Type 0) → Type 0 → List (List ℕ) → Type 0
NameOnly Kind Start names = AllByRecursion (NamesOne Kind Start) names

pub only_more : (K L : ℕ → Type 0) (S T : Type 0) (names : List (List ℕ)) → ((a : ℕ) → K a → L a) → (S → T)
    → NameOnly K S names → NameOnly L T names
only_more K L S T [] less start h = tt
only_more K L S T (n ∷ ns) less start h = (by h.0, only_more K L S T ns less start h.1)
  where
    by : NamesOne K S n → NamesOne L T n
    by (inl x) = inl (x.0, start x.1)
    by (inr x) = inr (x.0, x.1, x.2, less x.0 x.3)

pub only_behind : (K : ℕ → Type 0) (S : Type 0) (ns ms : List (List ℕ)) → NameOnly K S ns → NameOnly K S ms
    → NameOnly K S (ns ++ ms)
only_behind K S [] ms h k = k
only_behind K S (n ∷ ns) ms h k = (h.0, only_behind K S ns ms h.1 k)

-- names of kinds that share nothing differ
differ : (K L : ℕ → Type 0) (S T : Type 0) (n m : List ℕ) → ((a : ℕ) → K a → L a → ⊥) → (S → T → ⊥)
    → NamesOne K S n → NamesOne L T m → n ≡ m → ⊥
differ K L S T n m apart starts (inl x) (inl y) e = starts x.1 y.1
differ K L S T n m apart starts (inl x) (inr y) e = no_start y.0 (sym y.1 ∙ sym e ∙ x.0)
differ K L S T n m apart starts (inr x) (inl y) e = no_start x.0 (sym x.1 ∙ e ∙ y.0)
differ K L S T n m apart starts (inr x) (inr y) e =
    let same : x.0 ≡ y.0 = one_name x.0 y.0 x.2 y.2 (sym x.1 ∙ e ∙ y.1) in
    apart y.0 (subst K same x.3) y.3

pub other_bytes : (n m : List ℕ) → (n ≡ m → ⊥) → bytes_eq n m ≡ false
other_bytes n m other = by (bytes_eq n m) refl
  where
    by : (t : Bool) → bytes_eq n m ≡ t → t ≡ false
    by true e = absurd (other ((bytes_eq-Decides n m).0 e))
    by false e = refl

new_to : (K L : ℕ → Type 0) (S T : Type 0) (ns : List (List ℕ)) (m : List ℕ) → ((a : ℕ) → K a → L a → ⊥)
    → (S → T → ⊥) → NameOnly K S ns → NamesOne L T m → IsNew m ns
new_to K L S T [] m apart starts h k = tt
new_to K L S T (n ∷ ns) m apart starts h k =
    (other_bytes m n (λ e. differ K L S T n m apart starts h.0 k (sym e)), new_to K L S T ns m apart starts h.1 k)

new_both : (m : List ℕ) (before ns : List (List ℕ)) → IsNew m before → IsNew m ns → IsNew m (before ++ ns)
new_both m [] ns h k = k
new_both m (b ∷ before) ns h k = (h.0, new_both m before ns h.1 k)

once_behind : (K L : ℕ → Type 0) (S T : Type 0) (before done ms : List (List ℕ)) → ((a : ℕ) → K a → L a → ⊥)
    → (S → T → ⊥) → NameOnly K S before → NameOnly L T ms → AreOnce done ms → AreOnce (before ++ done) ms
once_behind K L S T before done [] apart starts h k once = tt
once_behind K L S T before done (m ∷ ms) apart starts h k once = (
  new_both m before done (new_to K L S T before m apart starts h k.0) once.0,
  subst (λ (ns : List (List ℕ)). AreOnce ns ms) (sym (append_assoc before done (m ∷ [])))
      (once_behind K L S T before (done ++ m ∷ []) ms apart starts h k.1 once.1),
)

once_front : (done ns ms : List (List ℕ)) → AreOnce done ns → AreOnce (done ++ ns) ms → AreOnce done (ns ++ ms)
once_front done [] ms h k = subst (λ (xs : List (List ℕ)). AreOnce xs ms) (append-nil done) k
once_front done (n ∷ ns) ms h k = (
  h.0,
  once_front (done ++ n ∷ []) ns ms h.1
      (subst (λ (xs : List (List ℕ)). AreOnce xs ms) (sym (append_assoc done (n ∷ []) ns)) k),
)

-- names of kinds that share nothing come once where each do
pub once_both : (K L : ℕ → Type 0) (S T : Type 0) (ns ms : List (List ℕ)) → ((a : ℕ) → K a → L a → ⊥)
    → (S → T → ⊥) → NameOnly K S ns → NameOnly L T ms → AreOnce [] ns → AreOnce [] ms → AreOnce [] (ns ++ ms)
once_both K L S T ns ms apart starts h k one two =
    once_front [] ns ms one
    (subst (λ (xs : List (List ℕ)). AreOnce xs ms) (append-nil ns) (once_behind K L S T ns [] ms apart starts h k two))

-- a name is one of either
pub name_behind : (name : List ℕ) (ns ms : List (List ℕ)) → HasName name ms → HasName name (ns ++ ms)
name_behind name [] ms h = h
name_behind name (n ∷ ns) ms h = inr (name_behind name ns ms h)

pub name_before : (name : List ℕ) (ns ms : List (List ℕ)) → HasName name ns → HasName name (ns ++ ms)
name_before name [] ms h = absurd h
name_before name (n ∷ ns) ms (inl h) = inl h
name_before name (n ∷ ns) ms (inr h) = inr (name_before name ns ms h)
