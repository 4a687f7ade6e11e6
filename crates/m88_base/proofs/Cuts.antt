-- Runs in ascending order, cut at an index: what is found in them, and where another run may begin.
use Rattle.std.proofs.Common.{◌≡◌, ℕ, zero, suc, ◌+◌, ◌-◌, ◌<◌, ◌≤◌, List, [], ◌∷◌, ◌++◌, length, get_or, take, drop, refl, sym, add-zero, arith, ◌∙◌, ap}
use Rattle.std.specs.Prelude.{None, Some, IsSome, slice_get}
use Rattle.std.proofs.Math.Seq.{drop-cons, take-suc}
use Rattle.std.proofs.lemmas.Option.{slice_get-get_or}
use Rattle.std.proofs.lemmas.List.{take-append-drop, get_or-drop, get_or-take, get_or_default, length-drop, length-take}
use Rattle.m88_base.specs.Found.{IsFree, IsLeastTaken, IsPart}
use Rattle.m88_base.specs.Placed.{Placed, byte_in, byte_among, AreApart}
use Rattle.m88_base.specs.Inside.Placing.{EndsBy, IsLastBy, IsSought, StandsBetween, next_start}
use Rattle.m88_base.proofs.Lookup.{option_or-none, byte_in_at, byte_among-append}
use Rattle.m88_base.proofs.Apart.{apart_lower, next_start-append, apart_front, apart_back, none_below, none_above}

pub cut_at : (xs : List Placed) (i : ℕ) (d : Placed) → i < length xs → xs ≡ take i xs ++ get_or xs i d ∷ drop (suc i) xs
cut_at xs i d h = sym (take-append-drop i xs) ∙ ap (λ ys. take i xs ++ ys) (drop-cons xs i d h)

pub take_last : (xs : List Placed) (i : ℕ) (d : Placed) → 0 < i → i ≤ length xs → take i xs ≡ take (i - 1) xs ++ get_or xs (i - 1) d ∷ []
take_last xs zero d p h = absurd (omega arith)
take_last xs (suc i) d p h = let e : suc i - 1 ≡ i = omega arith in rw e (take-suc xs i d h)

pub apart_take : (xs : List Placed) (i : ℕ) → AreApart 0 xs → AreApart 0 (take i xs)
apart_take xs i h = apart_front 0 (take i xs) (drop i xs) (rw take-append-drop h)

pub apart_drop : (xs : List Placed) (i : ℕ) → AreApart 0 xs → AreApart (next_start 0 (take i xs)) (drop i xs)
apart_drop xs i h = apart_back 0 (take i xs) (drop i xs) (rw take-append-drop h)

pub next_start-take : (xs : List Placed) (i : ℕ) (d : Placed) → 0 < i → i ≤ length xs
    → next_start 0 (take i xs) ≡ (get_or xs (i - 1) d).at + length (get_or xs (i - 1) d).bytes + 1
next_start-take xs i d p h = rw (take_last xs i d p h) (next_start-append 0 (take (i - 1) xs) (get_or xs (i - 1) d ∷ []))

-- no run begins below an earlier one
from_least : (from : ℕ) (xs : List Placed) (j : ℕ) (d : Placed) → AreApart from xs → j < length xs → from ≤ (get_or xs j d).at
from_least from [] j d h l = absurd (omega arith)
from_least from (x ∷ xs) zero d h l = h.0
from_least from (x ∷ xs) (suc j) d h l = omega (arith, h.0, from_least (x.at + length x.bytes + 1) xs j d h.2 (omega arith))

pub starts_rise : (from : ℕ) (xs : List Placed) (i j : ℕ) (d : Placed) → AreApart from xs → i ≤ j → j < length xs → (get_or xs i d).at ≤ (get_or xs j d).at
starts_rise from [] i j d h e l = absurd (omega arith)
starts_rise from (x ∷ xs) zero zero d h e l = omega arith
starts_rise from (x ∷ xs) zero (suc j) d h e l = omega (arith, from_least (x.at + length x.bytes + 1) xs j d h.2 (omega arith))
starts_rise from (x ∷ xs) (suc i) zero d h e l = absurd (omega arith)
starts_rise from (x ∷ xs) (suc i) (suc j) d h e l = starts_rise (x.at + length x.bytes + 1) xs i j d h.2 (omega arith) (omega arith)

-- runs lie from an address on where their first does
pub apart_from_first : (low from : ℕ) (xs : List Placed) → AreApart low xs → ((d : Placed) → 0 < length xs → from ≤ (get_or xs 0 d).at) → AreApart from xs
apart_from_first low from [] h f = tt
apart_from_first low from (x ∷ xs) h f = (f x (omega arith), h.1, h.2)

-- the last run that begins at or below an address is the one that may have a byte there
pub found_in_last : (xs : List Placed) (i a : ℕ) (d : Placed) → AreApart 0 xs → 0 < i → i ≤ length xs → (get_or xs (i - 1) d).at ≤ a → AreApart (a + 1) (drop i xs)
    → byte_among xs a ≡ slice_get (get_or xs (i - 1) d).bytes (a - (get_or xs (i - 1) d).at)
found_in_last xs zero a d h p l s above = absurd (omega arith)
found_in_last xs (suc i) a d h p l s above =
    let e : suc i - 1 ≡ i = omega arith in
    let run : Placed = get_or xs i d in
    let cut = cut_at xs i d l in
    let apart : AreApart 0 (take i xs ++ run ∷ drop (suc i) xs) = rw cut at h in
    let last : run.at ≤ a = rw e at s in
    let front : byte_among (take i xs) a ≡ None =
    none_above 0 (take i xs) a (apart_take xs i h) (omega (arith, last, (apart_back 0 (take i xs) (run ∷ drop (suc i) xs) apart).0)) in
    let back : byte_among (drop (suc i) xs) a ≡ None = none_below (a + 1) (drop (suc i) xs) a above (omega arith) in
    let whole : byte_among (take i xs ++ run ∷ drop (suc i) xs) a ≡ byte_in run a =
    byte_among-append (take i xs) (run ∷ drop (suc i) xs) a ∙ rw (front, back) (option_or-none (byte_in run a)) in
    rw e (ap (λ ys. byte_among ys a) cut ∙ (whole ∙ byte_in_at run a last))

pub slice_get-drop : (n : ℕ) (xs : List ℕ) (k : ℕ) → slice_get (drop n xs) k ≡ slice_get xs (n + k)
slice_get-drop zero xs k = let e : 0 + k ≡ k = omega arith in ap (λ n. slice_get xs n) (sym e)
slice_get-drop (suc n) [] k = refl
slice_get-drop (suc n) (x ∷ xs) k =
    let e : suc n + k ≡ suc (n + k) = omega arith in slice_get-drop n xs k ∙ ap (λ m. slice_get (x ∷ xs) m) (sym e)

-- what is behind an address in the last run that begins at or below it is all that is there, up to the run's end
pub rest_in_last : (xs : List Placed) (i a : ℕ) (run : Placed) → AreApart 0 xs → 0 < i → i ≤ length xs → run ≡ get_or xs (i - 1) run → run.at ≤ a
    → AreApart (a + 1) (drop i xs) → (k : ℕ) → k ≤ length (drop (a - run.at) run.bytes)
    → byte_among xs (a + k) ≡ slice_get (drop (a - run.at) run.bytes) k
rest_in_last xs i a run h p l is s above k few =
    let left = length-drop (a - run.at) run.bytes in
    let e : a + k - run.at ≡ a - run.at + k = omega (arith, s) in
    let start : (get_or xs (i - 1) run).at ≤ a + k = rw (← is) (omega (arith, s)) in
    let found = found_in_last xs i (a + k) run h p l start (beyond k few left) in
    rw (← is, e) at found ∙ sym (slice_get-drop (a - run.at) run.bytes k)
  where
    end : next_start 0 (take i xs) ≡ run.at + length run.bytes + 1
    end = rw (← is) at (next_start-take xs i run p l)

    beyond : (k : ℕ) → k ≤ length (drop (a - run.at) run.bytes) → length (drop (a - run.at) run.bytes) ≡ length run.bytes - (a - run.at)
        → AreApart (a + k + 1) (drop i xs)
    beyond zero few left = let e : a + 0 + 1 ≡ a + 1 = omega arith in rw e above
    beyond (suc k) few left = apart_lower _ _ (drop i xs) (omega (arith, s, few, left)) (rw end at (apart_drop xs i h))

pub some_within : (xs : List ℕ) (k : ℕ) → k < length xs → IsSome (slice_get xs k)
some_within [] k h = absurd (omega arith)
some_within (x ∷ xs) zero h = refl
some_within (x ∷ xs) (suc k) h = some_within xs k (omega arith)

-- so it is of the last run that begins at or below an address
pub found_by_last : (xs : List Placed) (a : ℕ) (run : Placed) → AreApart 0 xs → IsLastBy xs a run
    → byte_among xs a ≡ slice_get run.bytes (a - run.at)
found_by_last xs a run h last =
    rw (← last.is) at
    (found_in_last xs last.index a run h last.some last.cut.bound (rw (← last.is) last.from) last.cut.above)

pub rest_by_last : (xs : List Placed) (a : ℕ) (run : Placed) → AreApart 0 xs → IsLastBy xs a run
    → (k : ℕ) → k ≤ length (drop (a - run.at) run.bytes) → byte_among xs (a + k) ≡ slice_get (drop (a - run.at) run.bytes) k
rest_by_last xs a run h last k few =
    rest_in_last xs last.index a run h last.some last.cut.bound last.is last.from last.cut.above k few

-- an address in the last run that begins at or below it has a byte
pub taken_in_last : (xs : List Placed) (i start a n : ℕ) → AreApart 0 xs → IsSought xs i start a n → a + 1 < start → IsLeastTaken (byte_among xs) a n a
taken_in_last xs zero start a n h s reach = absurd (omega (arith, s.next))
taken_in_last xs (suc i) start a n h s reach =
    let d : Placed = record { at = 0; bytes = [] } in
    let e : suc i - 1 ≡ i = omega arith in
    let run : Placed = get_or xs i d in
    let l : suc i ≤ length xs = s.cut.bound in
    let begin : run.at ≤ a = rw (get_or-take (suc i) xs i d (omega arith)) at (s.cut.below i d (simp length-take (omega arith))) in
    let found = found_in_last xs (suc i) a d h (omega arith) l (rw e begin) s.cut.above in
    let end : next_start 0 (take (suc i) xs) ≡ run.at + length run.bytes + 1 = rw e at (next_start-take xs (suc i) d (omega arith) l) in (
      (omega arith, omega (arith, s.some)),
      rw (found, e) (some_within run.bytes (a - run.at) (omega (arith, end, s.next))),
      λ b p q. absurd (omega arith),
    )

-- where no run reaches the addresses, the first of the next run is the least that has a byte
pub taken_in_next : (xs : List Placed) (i start at n : ℕ) (run : Placed) → AreApart 0 xs → IsSought xs i start at n → start ≤ at + 1 → i < length xs
    → run ≡ get_or xs i run → run.at < at + n → IsLeastTaken (byte_among xs) at n run.at
taken_in_next xs i start at n run h s below l is reach =
    let rest : List Placed = drop (suc i) xs in
    let apart : AreApart (at + 1) (run ∷ rest) = rw (drop-cons xs i run l, ← is) at s.cut.above in
    let low : at + 1 ≤ run.at = apart.0 in
    let nothing = λ (a : ℕ) (p : at ≤ a). none_above 0 (take i xs) a (apart_take xs i h) (omega (arith, s.next)) in
    let whole = λ (a : ℕ). ap (λ ys. byte_among ys a) (rw (← is) at (cut_at xs i run l)) ∙ byte_among-append (take i xs) (run ∷ rest) a in
    let nonempty : 0 < length run.bytes = apart.1 in
    let z : run.at - run.at ≡ 0 = omega arith in
    let first : byte_in run run.at ≡ Some (get_or run.bytes 0 0) =
    byte_in_at run run.at (omega arith) ∙ rw z (slice_get-get_or run.bytes 0 0 nonempty) in (
      (omega arith, reach),
      rw (whole run.at, nothing run.at (omega arith), first) refl,
      λ b p q. whole b ∙ rw (nothing b p) (none_below run.at (run ∷ rest) b (omega arith, apart.1, apart.2) q),
    )

-- addresses that no run reaches have no byte
pub free_between : (xs : List Placed) (i at n : ℕ) → AreApart 0 xs → next_start 0 (take i xs) ≤ at + 1 → AreApart (at + n) (drop i xs) → IsFree (byte_among xs) at n
free_between xs i at n h above below = λ a w.
    ap (λ ys. byte_among ys a) (sym (take-append-drop i xs)) ∙ (byte_among-append (take i xs) (drop i xs) a
    ∙ rw (none_above 0 (take i xs) a (apart_take xs i h) (omega (arith, w.0))) (none_below (at + n) (drop i xs) a below w.1))

-- where no run reaches the addresses, they stand between the runs
pub gap_between : (xs : List Placed) (i start at n : ℕ) (run : Placed) → IsSought xs i start at n → start ≤ at + 1
    → (i < length xs → (run ≡ get_or xs i run) × (at + n ≤ run.at)) → StandsBetween EndsBy AreApart xs i at n
gap_between xs i start at n run s reach high = record {
  within = s.cut.bound;
  above = omega (arith, s.next, reach);
  below = apart_from_first (at + 1) (at + n) (drop i xs) s.cut.above (λ d h.
      let l : i < length xs = omega (arith, length-drop i xs, h) in
      rw (get_or-drop, add-zero, get_or_default xs i d run l, ← (high l).0) (high l).1);
  some = s.some;
  fits = s.fits;
}

-- and have no byte
pub free_gap : (xs : List Placed) (i at n : ℕ) → AreApart 0 xs → StandsBetween EndsBy AreApart xs i at n → IsFree (byte_among xs) at n
free_gap xs i at n h gap = free_between xs i at n h gap.above gap.below

-- each run is a part of what is found in them
pub run_is_part : (xs : List Placed) (i : ℕ) (run : Placed) → AreApart 0 xs → i < length xs → run ≡ get_or xs i run → IsPart (byte_among xs) run.at run.bytes
run_is_part xs i run h l is =
    let more : List Placed = drop (suc i) xs in
    let cut : xs ≡ take i xs ++ run ∷ more = rw (← is) at (cut_at xs i run l) in
    let apart : AreApart (next_start 0 (take i xs)) (run ∷ more) = apart_back 0 (take i xs) (run ∷ more) (rw cut at h) in
    let here : drop i xs ≡ run ∷ more = rw (← is) at (drop-cons xs i run l) in
    let e : suc i - 1 ≡ i = omega arith in
    let was : get_or xs (suc i - 1) run ≡ run = rw e (sym is) in
    let end : next_start 0 (take (suc i) xs) ≡ run.at + length run.bytes + 1 = rw was at (next_start-take xs (suc i) run (omega arith) l) in
    record {
      some = apart.1;
      there = λ k p.
          let z : run.at + k - run.at ≡ k = omega arith in
          let found = found_in_last xs (suc i) (run.at + k) run h (omega arith) l (rw was (omega arith)) (apart_lower _ _ more (omega arith) apart.2) in
          rw (was, z) at found;
      below = λ a p. free_between xs i a 1 h (omega (arith, apart.0)) (rw here (omega arith, apart.1, apart.2)) a (omega arith, omega arith);
      above = free_between xs (suc i) (run.at + length run.bytes) 1 h (omega (arith, end)) apart.2 _ (omega arith, omega arith);
    }
