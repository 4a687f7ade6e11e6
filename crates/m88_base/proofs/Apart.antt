-- Runs in ascending order with gaps between them: cut in two, joined again, and what is found below and above them.
use Rattle.std.proofs.Common.{◌≡◌, ℕ, ◌+◌, ◌<◌, ◌≤◌, List, [], ◌∷◌, ◌++◌, length, refl, arith}
use Rattle.std.specs.Prelude.{None}
use Rattle.m88_base.specs.Placed.{Placed, byte_among, AreApart}
use Rattle.m88_base.specs.Inside.Placing.{next_start}
use Rattle.m88_base.proofs.Lookup.{byte_in_below, byte_in_above}

pub next_start-append : (from : ℕ) (xs ys : List Placed) → next_start from (xs ++ ys) ≡ next_start (next_start from xs) ys
next_start-append from [] ys = refl
next_start-append from (x ∷ xs) ys = next_start-append (x.at + length x.bytes + 1) xs ys

pub next_start_grows : (from : ℕ) (xs : List Placed) → AreApart from xs → from ≤ next_start from xs
next_start_grows from [] h = omega arith
next_start_grows from (x ∷ xs) h = omega (arith, h.0, next_start_grows (x.at + length x.bytes + 1) xs h.2)

pub apart_lower : (from low : ℕ) (xs : List Placed) → low ≤ from → AreApart from xs → AreApart low xs
apart_lower from low [] l h = tt
apart_lower from low (x ∷ xs) l h = (omega (arith, h.0), h.1, h.2)

pub apart_front : (from : ℕ) (xs ys : List Placed) → AreApart from (xs ++ ys) → AreApart from xs
apart_front from [] ys h = tt
apart_front from (x ∷ xs) ys h = (h.0, h.1, apart_front (x.at + length x.bytes + 1) xs ys h.2)

pub apart_back : (from : ℕ) (xs ys : List Placed) → AreApart from (xs ++ ys) → AreApart (next_start from xs) ys
apart_back from [] ys h = h
apart_back from (x ∷ xs) ys h = apart_back (x.at + length x.bytes + 1) xs ys h.2

pub apart_join : (from : ℕ) (xs ys : List Placed) → AreApart from xs → AreApart (next_start from xs) ys → AreApart from (xs ++ ys)
apart_join from [] ys p q = q
apart_join from (x ∷ xs) ys p q = (p.0, p.1, apart_join (x.at + length x.bytes + 1) xs ys p.2 q)

-- nothing is found below runs
pub none_below : (from : ℕ) (xs : List Placed) (a : ℕ) → AreApart from xs → a < from → byte_among xs a ≡ None
none_below from [] a h l = refl
none_below from (x ∷ xs) a h l =
    rw (byte_in_below x a (omega (arith, h.0))) (none_below (x.at + length x.bytes + 1) xs a h.2 (omega (arith, h.0)))

-- nor above them
pub none_above : (from : ℕ) (xs : List Placed) (a : ℕ) → AreApart from xs → next_start from xs ≤ a + 1 → byte_among xs a ≡ None
none_above from [] a h l = refl
none_above from (x ∷ xs) a h l =
    rw (byte_in_above x a (omega (arith, next_start_grows (x.at + length x.bytes + 1) xs h.2)))
    (none_above (x.at + length x.bytes + 1) xs a h.2 l)
