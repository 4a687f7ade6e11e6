-- No two mnemonics are spelled alike, and each stands with the letter that it begins with.
use Rattle.std.specs.Prelude.{ℕ, Bool, true, false, cond, List, [], ◌∷◌, find, slice_get}
use Rattle.std.specs.Prelude.{Option, Some, None, IfSome, ◌≡◌, refl}
use Rattle.std.specs.Str.{bytes_eq}
use Rattle.std.proofs.Common.{sym, ap, ◌∙◌}
use Rattle.std.proofs.lemmas.Slice.Eq.{bytes_eq-Decides}
use Rattle.m88_isa.specs.Mnemonic.{text_of}
use Rattle.m88_isa.specs.Letters.{begun_with, first_letter, mnemonic_of}
use Rattle.m88_isa.specs.declared.mnemonic.Mnemonic.{Mnemonic}
use Rattle.m88_isa.specs.declared.mnemonic.Mnemonic.TheVariants as mnemonic

-- the mnemonic of a spelling is the one that is spelled so
pub spelled_once : (m : Mnemonic) → mnemonic_of (text_of m) ≡ Some m
unfolding text_of begun_with
spelled_once mnemonic.XmemBu = refl
spelled_once _ = refl

-- what is found passes the test
passes : {X : Type 0} (test : X → Bool) (xs : List X) (y : X) → find test xs ≡ Some y → test y ≡ true
passes test [] y found = absurd cc
passes test (x ∷ xs) y found = by (test x) refl found (passes test xs y)
  where
    by : (b : Bool) → test x ≡ b → cond b (Some x) (find test xs) ≡ Some y → (find test xs ≡ Some y → test y ≡ true)
        → test y ≡ true
    by true holds found later = let same : x ≡ y = cc in sym (ap test same) ∙ holds
    by false fails found later = later found

-- the mnemonic of a name is spelled so
pub spells : (name : List ℕ) (m : Mnemonic) → mnemonic_of name ≡ Some m → text_of m ≡ name
spells name m found =
    (bytes_eq-Decides (text_of m) name).0
    (passes (λ k. bytes_eq (text_of k) name) (begun_with (first_letter name)) m found)

-- an answer that is spelled so, and is each mnemonic that is, is the mnemonic of a name
pub settled : (name : List ℕ) (answer : Option Mnemonic) → IfSome answer (λ m. text_of m ≡ name)
    → ((m : Mnemonic) → text_of m ≡ name → answer ≡ Some m) → answer ≡ mnemonic_of name
settled name (Some m) spelled only = sym (spelled_once m) ∙ ap mnemonic_of spelled
settled name None spelled only = by (mnemonic_of name) refl
  where
    by : (found : Option Mnemonic) → mnemonic_of name ≡ found → None ≡ mnemonic_of name
    by None none = sym none
    by (Some m) some = only m (spells name m some) ∙ sym some

-- a mnemonic that is spelled as a name is found among those of its first letter
pub lettered : (name : List ℕ) (letter : ℕ) (m : Mnemonic) → slice_get name 0 ≡ Some letter → text_of m ≡ name
    → find (λ k. bytes_eq (text_of k) name) (begun_with letter) ≡ Some m
lettered [] letter m first same = absurd cc
lettered (b ∷ bs) letter m first same =
    let here : letter ≡ b = cc in
    ap (λ k. find (λ m. bytes_eq (text_of m) (b ∷ bs)) (begun_with k)) here
    ∙ ap mnemonic_of (sym same) ∙ spelled_once m

-- no mnemonic is empty
pub letterless : (name : List ℕ) (m : Mnemonic) → slice_get name 0 ≡ None → text_of m ≡ name → None ≡ Some m
unfolding begun_with text_of
letterless [] m first same = ap mnemonic_of (sym same) ∙ spelled_once m
letterless (b ∷ bs) m first same = absurd cc
