-- A room over which the bytes found from an address on are written, by one run after another.
use Rattle.std.proofs.Common.{◌≡◌, ℕ, zero, suc, ◌+◌, ◌-◌, ◌<◌, ◌≤◌, List, [], ◌∷◌, ◌++◌, length, get_or, take, drop, refl, sym, ap, ◌∙◌, arith, inl, inr, append-nil}
use Rattle.std.specs.Prelude.{slice_get, Option, Some, None, unwrap_or, All}
use Rattle.std.specs.Option.{option_or}
use Rattle.std.proofs.Math.Seq.{drop-cons, take-suc}
use Rattle.std.proofs.lemmas.Bool.Decides.{leb_tells}
use Rattle.std.proofs.lemmas.List.{take-append-drop, take_all, drop_all, length-take, length-drop, get_or-take, get_or_default}
use borrow.Rule.Slice.PartMut.{put_mid, post_of}
use Rattle.m88_base.specs.Found.{filled}
use Rattle.m88_base.specs.Placed.{Placed, byte_in, byte_among, AreApart}
use Rattle.m88_base.specs.Inside.Placing.{IsCut, IsCutBy, next_start}
use Rattle.m88_base.specs.Inside.Blocks.{all_runs, first_start, AreNonempty}
use Rattle.m88_base.proofs.Lookup.{option_or-none, byte_in_at, byte_in_below, byte_among-append}
use Rattle.m88_base.proofs.Apart.{apart_front, apart_back, none_below, none_above}
use Rattle.m88_base.proofs.Cuts.{apart_take, apart_drop, slice_get-drop}
use Rattle.m88_base.proofs.Counting.{begun_block}
use Rattle.m88_base.proofs.InBlocks.{all_runs-append, around, take_runs-suc}

-- what is found elsewhere doesn't count
filled_same : (f g : ℕ → Option ℕ) (at : ℕ) (bytes : List ℕ) → ((a : ℕ) → at ≤ a → a < at + length bytes → f a ≡ g a) → filled f at bytes ≡ filled g at bytes
filled_same f g at [] same = refl
filled_same f g at (b ∷ bytes) same =
    rw (same at (omega arith) (omega arith), filled_same f g (at + 1) bytes (λ a low high. same a (omega (arith, low)) (omega (arith, high)))) refl

filled_none : (f : ℕ → Option ℕ) (at : ℕ) (bytes : List ℕ) → ((a : ℕ) → at ≤ a → a < at + length bytes → f a ≡ None) → filled f at bytes ≡ bytes
filled_none f at [] none = refl
filled_none f at (b ∷ bytes) none =
    rw (none at (omega arith) (omega arith), filled_none f (at + 1) bytes (λ a low high. none a (omega (arith, low)) (omega (arith, high)))) refl

unwrap_twice : (o p : Option ℕ) (b : ℕ) → unwrap_or o (unwrap_or p b) ≡ unwrap_or (option_or o p) b
unwrap_twice None p b = refl
unwrap_twice (Some x) p b = refl

filled_twice : (f g : ℕ → Option ℕ) (at : ℕ) (bytes : List ℕ) → filled g at (filled f at bytes) ≡ filled (λ a. option_or (g a) (f a)) at bytes
filled_twice f g at [] = refl
filled_twice f g at (b ∷ bytes) = rw (unwrap_twice (g at) (f at) b, filled_twice f g (at + 1) bytes) refl

filled-append : (f : ℕ → Option ℕ) (at : ℕ) (xs ys : List ℕ) → filled f at (xs ++ ys) ≡ filled f at xs ++ filled f (at + length xs) ys
filled-append f at [] ys = let e : at + 0 ≡ at = omega arith in rw e refl
filled-append f at (x ∷ xs) ys =
    let e : at + 1 + length xs ≡ at + length (x ∷ xs) = omega arith in
    ap (λ zs. unwrap_or (f at) x ∷ zs) (filled-append f (at + 1) xs ys ∙ ap (λ n. filled f (at + 1) xs ++ filled f n ys) e)

-- the bytes of a list laid over others
filled_lay : (f : ℕ → Option ℕ) (at : ℕ) (ys bytes : List ℕ) → ((k : ℕ) → k < length bytes → f (at + k) ≡ slice_get ys k)
    → filled f at bytes ≡ take (length bytes) ys ++ drop (length ys) bytes
filled_lay f at [] [] is = refl
filled_lay f at (y ∷ ys) [] is = refl
filled_lay f at [] (b ∷ bytes) is = filled_none f at (b ∷ bytes) (λ a low high.
    let e : at + (a - at) ≡ a = omega (arith, low) in
    ap f (sym e) ∙ is (a - at) (omega (arith, low, high)))
filled_lay f at (y ∷ ys) (b ∷ bytes) is =
    let z : at + 0 ≡ at = omega arith in
    let here : f at ≡ Some y = ap f (sym z) ∙ is 0 (omega arith) in
    rw (
      here,
      filled_lay f (at + 1) ys bytes (λ k few.
          let e : at + 1 + k ≡ at + suc k = omega arith in
          ap f e ∙ is (suc k) (omega (arith, few))),
    ) refl

-- one run, where an address in it or behind it is the first
pub filled_in : (run : Placed) (at : ℕ) (bytes : List ℕ) → run.at ≤ at
    → filled (byte_in run) at bytes ≡ take (length bytes) (drop (at - run.at) run.bytes) ++ drop (length (drop (at - run.at) run.bytes)) bytes
filled_in run at bytes low = filled_lay (byte_in run) at (drop (at - run.at) run.bytes) bytes (λ k few.
    let e : at + k - run.at ≡ at - run.at + k = omega (arith, low) in
    byte_in_at run (at + k) (omega (arith, low)) ∙ ap (λ n. slice_get run.bytes n) e ∙ sym (slice_get-drop (at - run.at) run.bytes k))

-- one run that begins above
filled_above : (run : Placed) (at gap : ℕ) (bytes : List ℕ) → run.at ≡ at + gap → gap ≤ length bytes
    → filled (byte_in run) at bytes ≡ take gap bytes ++ (take (length (drop gap bytes)) run.bytes ++ drop (length run.bytes) (drop gap bytes))
filled_above run at gap bytes is within =
    let long : length (take gap bytes) ≡ gap = omega (arith, length-take gap bytes, within) in
    let e : at + length (take gap bytes) ≡ run.at = omega (arith, long, is) in
    let front : filled (byte_in run) at (take gap bytes) ≡ take gap bytes =
    filled_none (byte_in run) at (take gap bytes) (λ a low high. byte_in_below run a (omega (arith, e, high))) in
    let back : filled (byte_in run) run.at (drop gap bytes) ≡ take (length (drop gap bytes)) run.bytes ++ drop (length run.bytes) (drop gap bytes) =
    filled_lay (byte_in run) run.at run.bytes (drop gap bytes) (λ k few.
    let z : run.at + k - run.at ≡ k = omega arith in
    byte_in_at run (run.at + k) (omega arith) ∙ ap (λ n. slice_get run.bytes n) z) in
    ap (λ bs. filled (byte_in run) at bs) (sym (take-append-drop gap bytes))
    ∙ (filled-append (byte_in run) at (take gap bytes) (drop gap bytes)
    ∙ (ap (λ n. filled (byte_in run) at (take gap bytes) ++ filled (byte_in run) n (drop gap bytes)) e
    ∙ (ap (λ bs. bs ++ filled (byte_in run) run.at (drop gap bytes)) front
    ∙ ap (λ bs. take gap bytes ++ bs) back)))

-- a run that begins behind a room
pub filled_behind : (run : Placed) (at : ℕ) (bytes : List ℕ) → at + length bytes ≤ run.at → filled (byte_in run) at bytes ≡ bytes
filled_behind run at bytes high = filled_none (byte_in run) at bytes (λ a low few. byte_in_below run a (omega (arith, few, high)))

-- runs, and then those above them
filled_more : (xs ys : List Placed) (at : ℕ) (bytes : List ℕ) → AreApart 0 (xs ++ ys)
    → filled (byte_among ys) at (filled (byte_among xs) at bytes) ≡ filled (byte_among (xs ++ ys)) at bytes
filled_more xs ys at bytes h =
    filled_twice (byte_among xs) (byte_among ys) at bytes
    ∙ filled_same (λ a. option_or (byte_among ys a) (byte_among xs a)) (byte_among (xs ++ ys)) at bytes (λ a low high.
    elim (leb_tells (next_start 0 xs) (a + 1)) [
      | inl from ↦
          rw (byte_among-append xs ys a, none_above 0 xs a (apart_front 0 xs ys h) from.1) (option_or-none (byte_among ys a))
      | inr below ↦
          rw (byte_among-append xs ys a, none_below (next_start 0 xs) ys a (apart_back 0 xs ys h) (omega (arith, below.1)))
          (sym (option_or-none (byte_among xs a)))
    ])

-- runs that begin behind a room don't count
filled_front : (xs ys : List Placed) (at : ℕ) (bytes : List ℕ) → AreApart (at + length bytes) ys
    → filled (byte_among xs) at bytes ≡ filled (byte_among (xs ++ ys)) at bytes
filled_front xs ys at bytes h = filled_same (byte_among xs) (byte_among (xs ++ ys)) at bytes (λ a low high.
    rw (byte_among-append xs ys a, none_below (at + length bytes) ys a h high) (sym (option_or-none (byte_among xs a))))

-- nor do those that end below it
pub filled_below : (xs : List Placed) (at : ℕ) (bytes : List ℕ) → AreApart 0 xs → next_start 0 xs ≤ at + 1 → filled (byte_among xs) at bytes ≡ bytes
filled_below xs at bytes h low = filled_none (byte_among xs) at bytes (λ a from high. none_above 0 xs a h (omega (arith, low, from)))

-- the bytes of a run that begins above, laid over the room behind the gap
pub laid_above : (run : Placed) (at gap : ℕ) (bytes new : List ℕ) → run.at ≡ at + gap → gap ≤ length bytes
    → new ≡ take (length (take (length bytes - gap) (drop gap bytes))) run.bytes ++ drop (length run.bytes) (take (length bytes - gap) (drop gap bytes))
    → put_mid gap (length bytes - gap) bytes new ≡ filled (byte_in run) at bytes
laid_above run at gap bytes new is within laid =
    let whole : take (length bytes - gap) (drop gap bytes) ≡ drop gap bytes =
    take_all (length bytes - gap) (drop gap bytes) (omega (arith, length-drop gap bytes)) in
    let none : post_of gap (length bytes - gap) bytes ≡ [] =
    drop_all (length bytes - gap) (drop gap bytes) (omega (arith, length-drop gap bytes)) in
    let over : new ≡ take (length (drop gap bytes)) run.bytes ++ drop (length run.bytes) (drop gap bytes) = rw whole at laid in
    rw (none, append-nil, over) (sym (filled_above run at gap bytes is within))

-- no run ahead of the last one that begins at or below an address reaches it
ahead_of_last : (runs : List Placed) (n i at : ℕ) → AreApart 0 runs → n ≤ length runs → All (λ run. run.at ≤ at) (take n runs) → i ≡ n - 1
    → next_start 0 (take i runs) ≤ at + 1
ahead_of_last runs zero i at h l low is = let e : i ≡ 0 = omega (arith, is) in rw e (omega arith)
ahead_of_last runs (suc n) i at h l low is =
    let none : Placed = record { at = 0; bytes = [] } in
    let run : Placed = get_or runs n none in
    let start : run.at ≤ at = rw (get_or-take (suc n) runs n none (omega arith)) at (low n none (simp length-take (omega (arith, l)))) in
    let apart : AreApart (next_start 0 (take n runs)) (run ∷ drop (suc n) runs) = rw (drop-cons runs n none (omega (arith, l))) at (apart_drop runs n h) in
    let e : i ≡ n = omega (arith, is) in
    rw e (omega (arith, apart.0, start))

pub begun_over : (runs : List Placed) (n i at : ℕ) (bytes : List ℕ) → AreApart 0 runs → IsCut runs n at → i ≡ n - 1
    → bytes ≡ filled (byte_among (take i runs)) at bytes
begun_over runs n i at bytes h cut is = sym (filled_below (take i runs) at bytes (apart_take runs i h) (ahead_of_last runs n i at h cut.bound cut.below is))

-- one more run
pub run_over : (runs : List Placed) (i at : ℕ) (run : Placed) (bytes room : List ℕ) → AreApart 0 runs → i < length runs → run ≡ get_or runs i run
    → room ≡ filled (byte_among (take i runs)) at bytes → filled (byte_in run) at room ≡ filled (byte_among (take (suc i) runs)) at bytes
run_over runs i at run bytes room h l is so =
    let cut : take (suc i) runs ≡ take i runs ++ run ∷ [] = rw (← is) at (take-suc runs i run l) in
    rw (so, cut)
    (filled_same (byte_in run) (byte_among (run ∷ [])) at (filled (byte_among (take i runs)) at bytes) (λ a low high. sym (option_or-none (byte_in run a)))
    ∙ filled_more (take i runs) (run ∷ []) at bytes (rw cut at (apart_take runs (suc i) h)))

-- a run behind the room ends it
pub run_behind : (runs : List Placed) (i at : ℕ) (run : Placed) (bytes : List ℕ) → AreApart 0 runs → i < length runs → run ≡ get_or runs i run
    → at + length bytes ≤ run.at → filled (byte_among (take i runs)) at bytes ≡ filled (byte_among runs) at bytes
run_behind runs i at run bytes h l is high =
    let here : drop i runs ≡ run ∷ drop (suc i) runs = rw (← is) at (drop-cons runs i run l) in
    let apart : AreApart (next_start 0 (take i runs)) (run ∷ drop (suc i) runs) = rw here at (apart_drop runs i h) in
    let above : AreApart (at + length bytes) (drop i runs) = rw here (high, apart.1, apart.2) in
    filled_front (take i runs) (drop i runs) at bytes above ∙ ap (λ ys. filled (byte_among ys) at bytes) (take-append-drop i runs)

first_from : (from : ℕ) (block rest : List Placed) → 0 < length block → AreApart from (block ++ rest) → from ≤ first_start block
first_from from [] rest some h = absurd (omega (arith, some))
first_from from (run ∷ block) rest some h = h.0

apart_from : (low from : ℕ) (block rest : List Placed) → 0 < length block → from ≤ first_start block → AreApart low (block ++ rest) → AreApart from (block ++ rest)
apart_from low from [] rest some high h = absurd (omega (arith, some))
apart_from low from (run ∷ block) rest some high h = (high, h.1, h.2)

blocks_apart : (bs : List (List Placed)) (n : ℕ) → AreApart 0 (all_runs bs) → AreApart 0 (all_runs (take n bs))
blocks_apart bs n h =
    apart_front 0 (all_runs (take n bs)) (all_runs (drop n bs)) (rw (← all_runs-append (take n bs) (drop n bs), take-append-drop) h)

-- the same of blocks: those ahead of the last that begins at or below an address
pub blocks_begun_over : (bs : List (List Placed)) (n b at : ℕ) (bytes : List ℕ) → AreNonempty bs → AreApart 0 (all_runs bs) → IsCutBy first_start bs at n
    → b ≡ n - 1 → bytes ≡ filled (byte_among (all_runs (take b bs))) at bytes
blocks_begun_over bs n b at bytes nonempty h cut e =
    elim (leb_tells 1 n) [
      | inr none ↦
          let z : b ≡ 0 = omega (arith, e, none.1) in rw z (sym (filled_below [] at bytes tt (omega arith)))
      | inl some ↦
          let within : n - 1 < length bs = omega (arith, some.1, cut.bound) in
          let block : List Placed = get_or bs (n - 1) [] in
          let is : block ≡ get_or bs (n - 1) block = get_or_default bs (n - 1) [] block within in
          let front : List Placed = all_runs (take (n - 1) bs) in
          let rest : List Placed = all_runs (drop (suc (n - 1)) bs) in
          let low : first_start block ≤ at = (begun_block bs n at block cut (omega (arith, some.1)) is).1 in
          let from = first_from (next_start 0 front) block rest (nonempty (n - 1) [] within) (apart_back 0 front (block ++ rest) (rw (around bs (n - 1) block within is) at h)) in
          rw e (sym (filled_below front at bytes (blocks_apart bs (n - 1) h) (omega (arith, from, low))))
    ]

-- one more block
pub block_over : (bs : List (List Placed)) (b at : ℕ) (block : List Placed) (bytes room : List ℕ) → AreApart 0 (all_runs bs) → b < length bs
    → block ≡ get_or bs b block → room ≡ filled (byte_among (all_runs (take b bs))) at bytes
    → filled (byte_among block) at room ≡ filled (byte_among (all_runs (take (suc b) bs))) at bytes
block_over bs b at block bytes room h l is so =
    let cut : all_runs (take (suc b) bs) ≡ all_runs (take b bs) ++ block = take_runs-suc bs b block l is in
    rw (so, cut) (filled_more (all_runs (take b bs)) block at bytes (rw cut at (blocks_apart bs (suc b) h)))

-- a block behind the room
pub block_behind : (bs : List (List Placed)) (b at : ℕ) (block : List Placed) (bytes : List ℕ) → AreApart 0 (all_runs bs) → b < length bs
    → block ≡ get_or bs b block → 0 < length block → at + length bytes ≤ first_start block
    → filled (byte_among (all_runs (take b bs))) at bytes ≡ filled (byte_among (all_runs bs)) at bytes
block_behind bs b at block bytes h l is some high =
    let front : List Placed = all_runs (take b bs) in
    let rest : List Placed = all_runs (drop (suc b) bs) in
    let whole = around bs b block l is in
    let apart = apart_from (next_start 0 front) (at + length bytes) block rest some high (apart_back 0 front (block ++ rest) (rw whole at h)) in
    filled_front front (block ++ rest) at bytes apart ∙ ap (λ ys. filled (byte_among ys) at bytes) (sym whole)
