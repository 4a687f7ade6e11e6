-- Where the byte of a run, and of runs in a row, is found.
use Rattle.std.proofs.Common.{◌≡◌, ℕ, zero, suc, ◌+◌, ◌-◌, ◌<◌, ◌≤◌, List, [], ◌∷◌, ◌++◌, length, sym, refl, ap, ◌∙◌, arith, inl, inr}
use Rattle.std.specs.Prelude.{slice_get, Option, Some, None}
use Rattle.std.specs.Option.{option_or}
use Rattle.std.proofs.lemmas.Bool.{le-leb, lt-leb}
use Rattle.std.proofs.lemmas.Bool.Decides.{leb_tells}
use Rattle.std.proofs.lemmas.Option.{slice_get_past}
use Rattle.m88_base.specs.Placed.{Placed, byte_in, byte_among}

pub option_or-none : {T : Type 0} (o : Option T) → option_or o None ≡ o
option_or-none None = refl
option_or-none (Some x) = refl

pub option_or_assoc : {T : Type 0} (o p q : Option T) → option_or (option_or o p) q ≡ option_or o (option_or p q)
option_or_assoc None p q = refl
option_or_assoc (Some x) p q = refl

-- an element of joined lists stands in the first of them
pub slice_get-append_left : (xs ys : List ℕ) (k : ℕ) → k < length xs → slice_get (xs ++ ys) k ≡ slice_get xs k
slice_get-append_left [] ys k h = absurd (omega arith)
slice_get-append_left (x ∷ xs) ys zero h = refl
slice_get-append_left (x ∷ xs) ys (suc k) h = slice_get-append_left xs ys k (omega arith)

-- or in the second
pub slice_get-append_right : (xs ys : List ℕ) (k : ℕ) → length xs ≤ k → slice_get (xs ++ ys) k ≡ slice_get ys (k - length xs)
slice_get-append_right [] ys k h = let e : k ≡ k - 0 = omega arith in ap (λ n. slice_get ys n) e
slice_get-append_right (x ∷ xs) ys zero h = absurd (omega arith)
slice_get-append_right (x ∷ xs) ys (suc k) h =
    let e : k - length xs ≡ suc k - length (x ∷ xs) = omega arith in
    slice_get-append_right xs ys k (omega arith) ∙ ap (λ n. slice_get ys n) e

pub byte_in_at : (run : Placed) (a : ℕ) → run.at ≤ a → byte_in run a ≡ slice_get run.bytes (a - run.at)
byte_in_at run a h = rw (le-leb run.at a h)

pub byte_in_from : (at : ℕ) (bytes : List ℕ) (k : ℕ) → byte_in (record { at = at; bytes = bytes }) (at + k) ≡ slice_get bytes k
byte_in_from at bytes k =
    let e : at + k - at ≡ k = omega arith in
    byte_in_at (record { at = at; bytes = bytes }) (at + k) (omega arith) ∙ ap (λ n. slice_get bytes n) e

pub byte_in_below : (run : Placed) (a : ℕ) → a < run.at → byte_in run a ≡ None
byte_in_below run a h = rw (lt-leb run.at a h)

pub byte_in_above : (run : Placed) (a : ℕ) → run.at + length run.bytes ≤ a → byte_in run a ≡ None
byte_in_above run a h = byte_in_at run a (omega arith) ∙ slice_get_past run.bytes (a - run.at) (omega arith)

-- the bytes of two runs of which the second begins where the first ends
pub byte_in-join : (at : ℕ) (xs ys : List ℕ) (next a : ℕ) → at + length xs ≡ next
    → byte_in (record { at = at; bytes = xs ++ ys }) a
    ≡ option_or (byte_in (record { at = at; bytes = xs }) a) (byte_in (record { at = next; bytes = ys }) a)
byte_in-join at xs ys next a e =
    let both : Placed = record { at = at; bytes = xs ++ ys } in
    let one : Placed = record { at = at; bytes = xs } in
    let two : Placed = record { at = next; bytes = ys } in
    elim (leb_tells at a) [
      | inr low ↦ rw (byte_in_below both a low.1, byte_in_below one a low.1, byte_in_below two a (omega (arith, low.1)))
      | inl from ↦ elim (leb_tells next a) [
        | inr mid ↦
            rw (byte_in_below two a mid.1, option_or-none (byte_in one a), byte_in_at both a from.1, byte_in_at one a from.1)
            (slice_get-append_left xs ys (a - at) (omega (arith, mid.1, from.1)))
        | inl high ↦
            let k : a - at - length xs ≡ a - next = omega arith in
            rw (byte_in_above one a (omega (arith, high.1)), byte_in_at both a from.1, byte_in_at two a high.1)
            (slice_get-append_right xs ys (a - at) (omega (arith, high.1)) ∙ ap (λ n. slice_get ys n) k)
      ]
    ]

pub byte_among-append : (xs ys : List Placed) (a : ℕ) → byte_among (xs ++ ys) a ≡ option_or (byte_among xs a) (byte_among ys a)
byte_among-append [] ys a = refl
byte_among-append (x ∷ xs) ys a =
    rw (byte_among-append xs ys a) (sym (option_or_assoc (byte_in x a) (byte_among xs a) (byte_among ys a)))
