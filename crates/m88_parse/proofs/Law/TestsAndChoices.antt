-- Steps that several laws take: tests, choices and the longest run at the front of a list.
use Rattle.std.proofs.Common.{◌≡◌, ℕ, ◌+◌, Bool, true, false, cond, not, ◌&&◌, ◌||◌, ◌⊎◌, inl, inr, List, [], ◌∷◌, ◌++◌, length, take, drop, refl, sym, ap, ◌∙◌, arith, one-add, append-nil, take_all}
use Rattle.std.specs.List.{list_all, prefix_len}

pub both : (a b : Bool) → (a && b) ≡ true → (a ≡ true) × (b ≡ true)
both true b h = (refl, h)
both false b h = absurd cc

pub either : (a b : Bool) → (a || b) ≡ true → (a ≡ true) ⊎ (b ≡ true)
either true b h = inl refl
either false b h = inr h

pub neither : (a b : Bool) → (a || b) ≡ false → (a ≡ false) × (b ≡ false)
neither true b h = absurd cc
neither false b h = (refl, h)

pub not_true : (a : Bool) → not a ≡ true → a ≡ false
not_true true h = absurd cc
not_true false h = refl

pub not_false : (a : Bool) → not a ≡ false → a ≡ true
not_false true h = refl
not_false false h = absurd cc

pub tested : (a : Bool) → (a ≡ true) ⊎ (a ≡ false)
tested true = inl refl
tested false = inr refl

pub chosen : {X : Type 0} (b : Bool) (x y z : X) → cond b x y ≡ z → ((b ≡ true) × (x ≡ z)) ⊎ ((b ≡ false) × (y ≡ z))
chosen true x y z h = inl (refl, h)
chosen false x y z h = inr (refl, h)

pub take_then : {X : Type 0} (b : Bool) (x y : X) → b ≡ true → cond b x y ≡ x
take_then true x y h = refl
take_then false x y h = absurd cc

pub take_else : {X : Type 0} (b : Bool) (x y : X) → b ≡ false → cond b x y ≡ y
take_else true x y h = absurd cc
take_else false x y h = refl

-- the first element doesn't pass the test
abbrev pub Stops : (ℕ → Bool) → List ℕ → Type 0
Stops p [] = Unit {0}
Stops p (x ∷ xs) = p x ≡ false

pub prefix_all : (p : ℕ → Bool) (xs ys : List ℕ) → list_all p xs ≡ true → Stops p ys → prefix_len p (xs ++ ys) ≡ length xs
prefix_all p [] [] h s = refl
prefix_all p [] (y ∷ ys) h s = take_else (p y) (1 + prefix_len p ys) 0 s
prefix_all p (x ∷ xs) ys h s =
    let k = both (p x) (list_all p xs) h in
    let ih = prefix_all p xs ys k.1 s in
    take_then (p x) (1 + prefix_len p (xs ++ ys)) 0 k.0 ∙ omega (arith, ih)

pub all_of_prefix : (p : ℕ → Bool) (xs : List ℕ) → list_all p (take (prefix_len p xs) xs) ≡ true
all_of_prefix p [] = refl
all_of_prefix p (x ∷ xs) = go (p x) refl (all_of_prefix p xs)
  where
    go : (b : Bool) → p x ≡ b → list_all p (take (prefix_len p xs) xs) ≡ true → list_all p (take (cond b (1 + prefix_len p xs) 0) (x ∷ xs)) ≡ true
    go true e ih = rw one-add (ap (λ (b : Bool). b && list_all p (take (prefix_len p xs) xs)) e ∙ ih)
    go false e ih = refl

pub stops_prefix : (p : ℕ → Bool) (xs : List ℕ) → Stops p (drop (prefix_len p xs) xs)
stops_prefix p [] = tt
stops_prefix p (x ∷ xs) = go (p x) refl (stops_prefix p xs)
  where
    go : (b : Bool) → p x ≡ b → Stops p (drop (prefix_len p xs) xs) → Stops p (drop (cond b (1 + prefix_len p xs) 0) (x ∷ xs))
    go true e ih = rw one-add ih
    go false e ih = e

pub prefix_whole : (p : ℕ → Bool) (xs : List ℕ) → list_all p xs ≡ true → prefix_len p xs ≡ length xs
prefix_whole p xs h = ap (prefix_len p) (sym (append-nil xs)) ∙ prefix_all p xs [] h tt

pub whole_prefix : (p : ℕ → Bool) (xs : List ℕ) → prefix_len p xs ≡ length xs → list_all p xs ≡ true
whole_prefix p xs h =
    let e : take (prefix_len p xs) xs ≡ xs = take_all (prefix_len p xs) xs (omega (arith, h)) in
    sym (ap (list_all p) e) ∙ all_of_prefix p xs
