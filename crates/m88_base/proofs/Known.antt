-- What was taken from a source, or given to a sink, by two calls in a row, where they tell their bytes.
use Rattle.std.proofs.Common.{◌≡◌, ◌≢◌, ℕ, ◌+◌, ◌-◌, ◌≤◌, List, ◌++◌, length, take, drop, sym, arith, append_assoc, length-append, length-take, Some, None}
use Rattle.std.specs.declared.option.Option.{Option}
use Rattle.std.proofs.Math.Seq.{take-add}
use Rattle.std.proofs.lemmas.List.{take-append-le, take-take}
use Rattle.std.specs.Io.KnownBytes.{Appends, Consumes}
use Rattle.m88_base.specs.Outside.{TakesExactly, TakesAtMost}

pub consumes_more : (old middle new : Option (List ℕ)) (xs ys : List ℕ) → Consumes old middle xs → Consumes middle new ys → Consumes old new (xs ++ ys)
consumes_more None middle new xs ys p q = tt
consumes_more (Some a) None new xs ys p q = absurd p
consumes_more (Some a) (Some b) None xs ys p q = absurd q
consumes_more (Some a) (Some b) (Some d) xs ys p q = rw (p, q) (sym (append_assoc xs ys d))

pub appends_more : (old middle new : Option (List ℕ)) (xs ys : List ℕ) → Appends old middle xs → Appends middle new ys → Appends old new (xs ++ ys)
appends_more None middle new xs ys p q = tt
appends_more (Some a) None new xs ys p q = absurd p
appends_more (Some a) (Some b) None xs ys p q = absurd q
appends_more (Some a) (Some b) (Some d) xs ys p q = rw (q, p) (append_assoc a xs ys)

pub takes_exactly : (old middle new : Option (List ℕ)) (xs buf : List ℕ) (n m : ℕ) → Consumes old middle xs → Consumes middle new (take n buf)
    → n ≤ length buf → length xs + n ≡ m → TakesExactly old new m
takes_exactly old middle new xs buf n m p q short whole =
    (xs ++ take n buf, consumes_more old middle new xs (take n buf) p q, simp (length-append, length-take) (omega arith))

pub takes_at_most : (old middle new : Option (List ℕ)) (xs buf : List ℕ) (n m : ℕ) → Consumes old middle xs → Consumes middle new (take n buf)
    → n ≤ length buf → length xs + n ≤ m → TakesAtMost old new m
takes_at_most old middle new xs buf n m p q short whole =
    (xs ++ take n buf, consumes_more old middle new xs (take n buf) p q, simp (length-append, length-take) (omega arith))

-- the front of a buffer is no longer than what was read to it, whatever the buffer has behind that
pub length_front : (buf rest : List ℕ) (n : ℕ) → n ≤ length buf → length (take n (buf ++ rest)) ≡ n
length_front buf rest n short = rw (take-append-le n buf rest short) (simp length-take (omega arith))

pub consumes_front : (old middle new : Option (List ℕ)) (xs buf rest : List ℕ) (n : ℕ) → Consumes old middle xs
    → Consumes middle new (take n buf) → n ≤ length buf → Consumes old new (xs ++ take n (buf ++ rest))
consumes_front old middle new xs buf rest n p q short = rw (take-append-le n buf rest short) (consumes_more old middle new xs (take n buf) p q)

-- n more bytes fit where n is at most what is left
pub kept_below : (kept all front n len most : ℕ) → all ≡ kept + front → front ≡ n → len ≡ kept → n ≤ most - len → kept ≤ most → all ≤ most
kept_below kept all front n len most more size is room below = omega arith

-- at least as many bytes as turns
pub one_more_turn : (kept all front n turns : ℕ) → all ≡ kept + front → front ≡ n → n ≢ 0 → turns ≤ kept → turns + 1 ≤ all
one_more_turn kept all front n turns more size some below = omega arith

-- a front of the text was given, and then a front of the k bytes after it
pub appends_next : (old middle new : Option (List ℕ)) (text : List ℕ) (n m k : ℕ) → Appends old middle (take n text)
    → Appends middle new (take m (take k (drop n text))) → m ≤ length (take k (drop n text)) → Appends old new (take (n + m) text)
appends_next old middle new text n m k p q short =
    let within : m ≤ k = omega (arith, simp length-take at short) in
    rw take-add (appends_more old middle new (take n text) (take m (drop n text)) p (rw (take-take m k (drop n text) within) at q))
