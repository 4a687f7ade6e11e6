-- The runs as a list's own calls leave them, once bytes are placed at an index.
use Rattle.std.proofs.Common.{◌≡◌, ℕ, zero, suc, ◌+◌, ◌-◌, ◌<◌, ◌≤◌, List, [], ◌∷◌, ◌++◌, length, get_or, set, take, drop, refl, sym, ap, ◌∙◌, arith, append_assoc, length-append}
use Rattle.std.specs.Prelude.{insert, remove}
use Rattle.std.proofs.Math.Seq.{drop-cons, drop-nil, take-append_seam}
use Rattle.std.proofs.lemmas.List.{take-append-drop, get_or_default, set_split, length-take}
use Rattle.m88_base.specs.Placed.{Placed, AreApart}
use Rattle.m88_base.specs.Inside.Blocks.{end_of, no_run, run_at, with_ahead, with_behind}
use Rattle.m88_base.specs.Inside.Placing.{BeginsAt, next_start, Places}
use Rattle.m88_base.proofs.Cuts.{cut_at, apart_take, next_start-take}
use Rattle.m88_base.proofs.Placing.{places_alone, places_behind, places_ahead, places_across}

-- a run stands at each index that has one
pub stands : (xs : List Placed) (i : ℕ) → i < length xs → run_at xs i ≡ get_or xs i (run_at xs i)
stands xs i l = get_or_default xs i no_run (run_at xs i) l

pub found_run : (xs : List Placed) (i : ℕ) (run : Placed) → i < length xs → run ≡ get_or xs i run → run ≡ run_at xs i
found_run xs i run l is = is ∙ get_or_default xs i run no_run l

pub inserted : (xs : List Placed) (i at : ℕ) (bytes : List ℕ) → AreApart 0 xs → next_start 0 (take i xs) ≤ at → AreApart (at + length bytes + 1) (drop i xs)
    → 0 < length bytes → Places xs (insert xs i (record { at = at; bytes = bytes })) at bytes
inserted xs i at bytes h above below some =
    rw take-append-drop at (places_alone (take i xs) (drop i xs) at bytes (apart_take xs i h) above some below)

-- the run before the index, where one more may begin just behind it
pub some_before : (xs : List Placed) (i at : ℕ) → next_start 0 (take i xs) ≡ at + 1 → 0 < i
some_before xs zero at e = absurd (omega arith)
some_before xs (suc i) at e = omega arith

pub ends_before : (xs : List Placed) (i at : ℕ) → i ≤ length xs → next_start 0 (take i xs) ≡ at + 1 → end_of (run_at xs (i - 1)) ≡ at
ends_before xs i at l above = omega (arith, next_start-take xs i no_run (some_before xs i at above) l, above)

-- the run at the index, where one begins there
pub begins_within : (xs : List Placed) (i a : ℕ) → BeginsAt a (drop i xs) → i < length xs
begins_within [] i a h = absurd (rw drop-nil at h)
begins_within (x ∷ xs) zero a h = omega arith
begins_within (x ∷ xs) (suc i) a h = omega (arith, begins_within xs i a h)

pub begins_next : (xs : List Placed) (i a : ℕ) → BeginsAt a (drop i xs) → (run_at xs i).at ≡ a
begins_next xs i a h = rw (drop-cons xs i no_run (begins_within xs i a h)) at h

pub lengthened : (xs : List Placed) (i at : ℕ) (bytes : List ℕ) → AreApart 0 xs → i ≤ length xs → next_start 0 (take i xs) ≡ at + 1
    → AreApart (at + length bytes + 1) (drop i xs) → Places xs (set xs (i - 1) (with_behind (run_at xs (i - 1)) bytes)) at bytes
lengthened xs zero at bytes h l above below = absurd (omega arith)
lengthened xs (suc i) at bytes h l above below =
    let e : suc i - 1 ≡ i = omega arith in
    let run : Placed = run_at xs i in
    let cut : xs ≡ take i xs ++ run ∷ drop (suc i) xs = cut_at xs i no_run l in
    let end : end_of run ≡ at = rw e at (ends_before xs (suc i) at l above) in
    let placed = places_behind (take i xs) (drop (suc i) xs) run.at at run.bytes bytes end below (rw cut at h) in
    rw (e, set_split xs i (with_behind run bytes) l) (rw (← cut) at placed)

pub begun_earlier : (xs : List Placed) (i at : ℕ) (bytes : List ℕ) → AreApart 0 xs → next_start 0 (take i xs) ≤ at
    → BeginsAt (at + length bytes) (drop i xs) → 0 < length bytes → Places xs (set xs i (with_ahead (run_at xs i) bytes)) at bytes
begun_earlier xs i at bytes h above below some =
    let next : Placed = run_at xs i in
    let l : i < length xs = begins_within xs i (at + length bytes) below in
    let cut : xs ≡ take i xs ++ next ∷ drop (suc i) xs = cut_at xs i no_run l in
    let touch : at + length bytes ≡ next.at = sym (begins_next xs i (at + length bytes) below) in
    let begin : next.at - length bytes ≡ at = omega (arith, touch) in
    let placed = places_ahead (take i xs) (drop (suc i) xs) at next.at bytes next.bytes touch above some (rw cut at h) in
    rw (begin, set_split xs i (record { at = at; bytes = bytes ++ next.bytes }) l) (rw (← cut) at placed)

drop_past : (xs ys : List Placed) (x : Placed) → drop (suc (length xs)) (xs ++ x ∷ ys) ≡ ys
drop_past [] ys x = refl
drop_past (z ∷ xs) ys x = drop_past xs ys x

removed : (xs ys : List Placed) (x : Placed) (n : ℕ) → length xs ≡ n → remove (xs ++ x ∷ ys) n ≡ xs ++ ys
removed xs ys x n e = rw (← e, take-append_seam xs (x ∷ ys), drop_past xs ys x)

-- the gap between the run before the index and the one at it
pub gap : (xs : List Placed) (i at n : ℕ) → next_start 0 (take i xs) ≡ at + 1 → BeginsAt (at + n) (drop i xs)
    → (end_of (run_at xs (i - 1)) ≡ at) × ((run_at xs i).at ≡ at + n)
gap xs i at n above below =
    let l : i < length xs = begins_within xs i (at + n) below in
    (ends_before xs i at (omega arith) above, begins_next xs i (at + n) below)

-- two runs and what fills the gap between them as one, in the place of the lower one
pub bridged : (xs : List Placed) (i at : ℕ) (bytes : List ℕ) → AreApart 0 xs → next_start 0 (take i xs) ≡ at + 1
    → BeginsAt (at + length bytes) (drop i xs)
    → Places xs (remove (set xs (i - 1) (with_behind (run_at xs (i - 1)) (bytes ++ (run_at xs i).bytes))) i) at bytes
bridged xs zero at bytes h above below = absurd (omega arith)
bridged xs (suc i) at bytes h above below =
    let run : Placed = run_at xs i in
    let next : Placed = run_at xs (suc i) in
    let whole : Placed = with_behind run (bytes ++ next.bytes) in
    let more : List Placed = drop (suc (suc i)) xs in
    let front_new : List Placed = take i xs ++ whole ∷ [] in
    let e : suc i - 1 ≡ i = omega arith in
    let l : suc i < length xs = begins_within xs (suc i) (at + length bytes) below in
    let here : i < length xs = omega arith in
    let back : drop (suc i) xs ≡ next ∷ more = drop-cons xs (suc i) no_run l in
    let short : length (take i xs) ≡ i = simp length-take (omega arith) in
    let cut : xs ≡ take i xs ++ run ∷ next ∷ more = rw back at (cut_at xs i no_run here) in
    let long : length front_new ≡ suc i = omega (arith, length-append (take i xs) (whole ∷ []), short) in
    let gone : remove (take i xs ++ whole ∷ next ∷ more) (suc i) ≡ take i xs ++ whole ∷ more =
    ap (λ ys. remove ys (suc i)) (sym (append_assoc (take i xs) (whole ∷ []) (next ∷ more)))
    ∙ (removed front_new more next (suc i) long ∙ append_assoc (take i xs) (whole ∷ []) more) in
    let ends = rw e at (gap xs (suc i) at (length bytes) above below) in
    let placed = places_across (take i xs) more run.at at next.at run.bytes bytes next.bytes ends.0 (sym ends.1) (rw cut at h) in
    rw (e, set_split xs i whole here, back, gone) (rw (← cut) at placed)

-- the same in the place of the upper one
same_removed : (xs : List Placed) (j : ℕ) (whole : Placed) → suc j < length xs → remove (set xs (suc j) whole) j ≡ remove (set xs j whole) (suc j)
same_removed [] j whole l = absurd (omega arith)
same_removed (x ∷ []) j whole l = absurd (omega arith)
same_removed (x ∷ y ∷ xs) zero whole l = refl
same_removed (x ∷ y ∷ xs) (suc j) whole l = ap (λ zs. x ∷ zs) (same_removed (y ∷ xs) j whole (omega arith))

pub bridged_down : (xs : List Placed) (i at : ℕ) (bytes : List ℕ) → AreApart 0 xs → next_start 0 (take i xs) ≡ at + 1
    → BeginsAt (at + length bytes) (drop i xs)
    → Places xs (remove (set xs i (with_ahead (run_at xs i) ((run_at xs (i - 1)).bytes ++ bytes))) (i - 1)) at bytes
bridged_down xs zero at bytes h above below = absurd (omega arith)
bridged_down xs (suc i) at bytes h above below =
    let run : Placed = run_at xs i in
    let next : Placed = run_at xs (suc i) in
    let e : suc i - 1 ≡ i = omega arith in
    let l : suc i < length xs = begins_within xs (suc i) (at + length bytes) below in
    let ends = rw e at (gap xs (suc i) at (length bytes) above below) in
    let begin : next.at - length (run.bytes ++ bytes) ≡ run.at = omega (arith, ends.0, ends.1, length-append run.bytes bytes) in
    rw (e, begin, append_assoc run.bytes bytes next.bytes, same_removed xs i (with_behind run (bytes ++ next.bytes)) l)
    (rw e at (bridged xs (suc i) at bytes h above below))

-- what goes ahead of the run at the index has room below it, and what goes behind the one before it has room there
pub room_below : (xs : List Placed) (i at : ℕ) (bytes : List ℕ) → next_start 0 (take i xs) ≡ at + 1 → BeginsAt (at + length bytes) (drop i xs)
    → length ((run_at xs (i - 1)).bytes ++ bytes) ≤ (run_at xs i).at
room_below xs i at bytes above below =
    let ends = gap xs i at (length bytes) above below in
    omega (arith, ends.0, ends.1, length-append (run_at xs (i - 1)).bytes bytes)

pub room_above : (xs : List Placed) (i at : ℕ) (bytes : List ℕ) → next_start 0 (take i xs) ≡ at + 1 → BeginsAt (at + length bytes) (drop i xs)
    → end_of (run_at xs (i - 1)) + length (bytes ++ (run_at xs i).bytes) ≡ end_of (run_at xs i)
room_above xs i at bytes above below =
    let ends = gap xs i at (length bytes) above below in
    omega (arith, ends.0, ends.1, length-append bytes (run_at xs i).bytes)
