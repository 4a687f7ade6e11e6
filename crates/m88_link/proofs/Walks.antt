-- Going through parts: the first that fails, and one part more.
use Rattle.std.proofs.Common.{◌≡◌, ℕ, ◌+◌, ◌<◌, ◌≤◌, Bool, true, false, List, [], ◌∷◌, ◌++◌, length, take, drop, get_or, refl, sym, ap, ◌∙◌, subst, arith}
use Rattle.std.specs.Prelude.{All, Option, None, Some, flat_map, sum_by, ◌↔◌, IsTrue}
use Rattle.std.specs.List.{AllByRecursion}
use Rattle.std.specs.Option.{option_map, option_or}
use Rattle.std.proofs.lemmas.List.{length-take-le, drop_more, flat_map_more, take-append-drop, take_more, take_all}
use Rattle.std.proofs.lemmas.List.Elements.{All-from_recursion, All-push, recursion_from_All}
use Rattle.std.proofs.lemmas.List.Sums.{sum_by_more, sum_by-take-le}
use Rattle.m88_link.specs.declared.object.Object.{Object}
use Rattle.m88_link.specs.declared.object.Section.{Section}
use Rattle.m88_link.specs.declared.object.Symbol.{Symbol}
use Rattle.m88_link.specs.declared.walk.Walked.{Walked}
use Rattle.m88_link.specs.declared.walk.Walked.TheVariants.{Sound, Unsound}
use Rattle.m88_link.specs.ObjectRead.{AreSoundSymbols}
use Rattle.m88_link.specs.Sound.{IsDefinedIn, IsGlobalIfStart}
use Rattle.m88_link.specs.Symbols.{Repetition, first_repeated, repetition, symbol_of}
use Rattle.m88_link.specs.Inside.Walked.{AreSoundParts, Walks, IsFound, IsFoundObject, IsFoundPart, IsFoundSymbol, objects_count}
use Rattle.m88_link.proofs.Tabled.{repeated_after-push}

last_of : {A : Type 0} (P : A → Type 0) (xs : List A) (x : A) → AllByRecursion P (xs ++ x ∷ []) → P x
last_of P [] x h = h.0
last_of P (y ∷ xs) x h = last_of P xs x h.1

pub All-last : {A : Type 0} (P : A → Type 0) (xs : List A) (x : A) → All P (xs ++ x ∷ []) → P x
All-last P xs x h = last_of P xs x (recursion_from_All P (xs ++ x ∷ []) h)

pub front_of : {A : Type 0} (P : A → Type 0) (xs ys : List A) → AllByRecursion P (xs ++ ys) → AllByRecursion P xs
front_of P [] ys h = tt
front_of P (x ∷ xs) ys h = (h.0, front_of P xs ys h.1)

pub All-front : {A : Type 0} (P : A → Type 0) (xs ys : List A) → All P (xs ++ ys) → All P xs
All-front P xs ys h = All-from_recursion P xs (front_of P xs ys (recursion_from_All P (xs ++ ys) h))

module _ {A : Type 0} (xs : List A) (i : ℕ) (x : A) (within : i < length xs) (is : x ≡ get_or xs i x) where
  pub take_one : take (i + 1) xs ≡ take i xs ++ x ∷ []
  take_one = take_more xs i x within ∙ ap (λ y. take i xs ++ y ∷ []) (sym is)

  pub parts_are : xs ≡ take i xs ++ x ∷ drop (i + 1) xs
  parts_are =
      sym (take-append-drop i xs) ∙ ap (λ l. take i xs ++ l) (drop_more xs i x within ∙ ap (λ y. y ∷ drop (i + 1) xs) (sym is))

  -- one good part more
  pub all_one : (P : A → Type 0) → All P (take i xs) → P x → All P (take (i + 1) xs)
  all_one P h k = subst (All P) (sym take_one) (All-push P (take i xs) x h k)

  -- the text of one part more
  pub text_one : (f : A → List ℕ) (old now new : List ℕ) → now ≡ old ++ flat_map f (take i xs) → new ≡ now ++ f x
      → new ≡ old ++ flat_map f (take (i + 1) xs)
  text_one f old now new before written =
      written ∙ ap (λ l. l ++ f x) before ∙ flat_map_more f old (take i xs) x ∙ ap (λ l. old ++ flat_map f l) (sym take_one)

  -- the first part that fails
  pub found_at : (Good : List A → Type 0) (count : List A → ℕ) (n : ℕ) → Good (take i xs) → (Good (take i xs ++ x ∷ []) → ⊥)
      → n ≡ count (take i xs) → IsFound Good count xs n
  found_at Good count n good bad counted = record {
    before = take i xs;
    part = x;
    after = drop (i + 1) xs;
    parts = parts_are;
    good = good;
    bad = bad;
    count_is = counted;
  }

  pub len_taken : i ≡ length (take i xs)
  len_taken = omega (arith, length-take-le i xs)

  -- the first one that one test fails
  pub found_one : (P : A → Type 0) (b : Bool) (count : List A → ℕ) (n : ℕ) → All P (take i xs) → (IsTrue b ↔ P x) → b ≡ false
      → n ≡ count (take i xs) → IsFound (All P) count xs n
  found_one P b count n good tells e counted =
      found_at (All P) count n good (λ h. absurd (let k = tells.1 (All-last P (take i xs) x h) in cc)) counted

  pub summed_one : (f : A → ℕ) (n m : ℕ) → n ≡ sum_by f (take i xs) → m ≡ f x → n + m ≡ sum_by f (take (i + 1) xs)
  summed_one f n m h k =
      let more = sum_by_more f xs i x within in
      let last : f x ≡ f (get_or xs i x) = ap f is in
      omega (arith, more, last, h, k)

  -- what is counted so far with one part more is no more than all
  pub summed_within : (f : A → ℕ) (n : ℕ) → n ≡ sum_by f (take i xs) → n + f x ≤ sum_by f xs
  summed_within f n h =
      let more = sum_by_more f xs i x within in
      let last : f x ≡ f (get_or xs i x) = ap f is in
      let all = sum_by-take-le f xs (i + 1) in
      omega (arith, more, last, all, h)

pub all_of : {A : Type 0} (P : A → Type 0) (xs : List A) (i : ℕ) → length xs ≤ i → All P (take i xs) → All P xs
all_of P xs i h all = subst (All P) (take_all i xs h) all

-- symbols that are sound, and one more
repeated_none : (ss : List Symbol) (s : Symbol) → first_repeated ss ≡ None → symbol_of ss s.name ≡ None → first_repeated (ss ++ s ∷ []) ≡ None
repeated_none ss s once new =
    repeated_after-push [] ss s
    ∙ ap (λ o. option_or o (repetition ss s)) once
    ∙ ap (λ o. option_map (λ f. record { symbol = s; first = f.line }) o) new

module _ (sections : List Section) (ss : List Symbol) (s : Symbol) where
  pub sound_more : AreSoundSymbols sections ss → IsDefinedIn sections s × (symbol_of ss s.name ≡ None) × IsGlobalIfStart s
      → AreSoundSymbols sections (ss ++ s ∷ [])
  sound_more h k = record {
    defined = All-push (IsDefinedIn sections) ss s h.defined k.0;
    names = repeated_none ss s h.names k.1;
    start = All-push IsGlobalIfStart ss s h.start k.2;
  }

  new_of : (o : Option Symbol) → option_map {U = Repetition} (λ f. record { symbol = s; first = f.line }) o ≡ None → o ≡ None
  new_of None h = refl
  new_of (Some f) h = absurd cc

  last_or : {A : Type 0} (o r : Option A) → option_or o r ≡ None → r ≡ None
  last_or None r h = h
  last_or (Some x) r h = absurd cc

  pub sound_last : AreSoundSymbols sections (ss ++ s ∷ []) → IsDefinedIn sections s × (symbol_of ss s.name ≡ None) × IsGlobalIfStart s
  sound_last h = (
    All-last (IsDefinedIn sections) ss s h.defined,
    new_of (symbol_of ss s.name) (last_or (first_repeated ss) (repetition ss s) (sym (repeated_after-push [] ss s) ∙ h.names)),
    All-last IsGlobalIfStart ss s h.start,
  )

-- a symbol that isn't sound behind those before it
module _ (sections : List Section) (xs : List Symbol) (i : ℕ) (x : Symbol) (within : i < length xs) (is : x ≡ get_or xs i x)
    (names : List Symbol) (b : Bool) (named : names ≡ take i xs)
    (tells : IsTrue b ↔ (IsDefinedIn sections x × (symbol_of names x.name ≡ None) × IsGlobalIfStart x))
    (sound : AreSoundSymbols sections (take i xs)) where
  pub symbol_fails : b ≡ false → IsFoundSymbol sections xs i
  symbol_fails e =
      found_at xs i x within is (AreSoundSymbols sections) length i sound
      (λ h.
      let k = sound_last sections (take i xs) x h in
      let t = tells.1 (k.0, ap (λ l. symbol_of l x.name) named ∙ k.1, k.2) in
      absurd cc)
      (len_taken xs i x within is)

  pub symbol_holds : b ≡ true → AreSoundSymbols sections (take (i + 1) xs)
  symbol_holds e =
      let k = tells.0 e in
      subst (AreSoundSymbols sections) (sym (take_one xs i x within is))
      (sound_more sections (take i xs) x sound (k.0, sym (ap (λ l. symbol_of l x.name) named) ∙ k.1, k.2))

  pub name_more : (new : List Symbol) → new ≡ names ++ x ∷ [] → new ≡ take (i + 1) xs
  name_more new h = h ∙ ap (λ l. l ++ x ∷ []) named ∙ sym (take_one xs i x within is)

-- an object of which a part isn't sound
pub object_fails : (xs : List Object) (i : ℕ) (x : Object) → i < length xs → x ≡ get_or xs i x → (lines k : ℕ)
    → All AreSoundParts (take i xs) → lines ≡ objects_count (take i xs) → IsFoundPart x k → IsFoundObject xs (lines + k)
object_fails xs i x within is lines k sound counted part = record {
  before = take i xs;
  object = x;
  after = drop (i + 1) xs;
  parts = parts_are xs i x within is;
  sound = sound;
  within = k;
  part = part;
  count_is = ap (λ n. n + k) counted;
}

-- what is known of what a walk came to
pub walked_sound : (w : Walked) (P Q : ℕ → Type 0) (n : ℕ) → w ≡ Sound n → Walks w P Q → P n
walked_sound w P Q n e h = rw e at h

pub walked_unsound : (w : Walked) (P Q : ℕ → Type 0) (n : ℕ) → w ≡ Unsound n → Walks w P Q → Q n
walked_unsound w P Q n e h = rw e at h
