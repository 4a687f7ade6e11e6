-- Runs in blocks: an edit of one block is the edit of all runs at the index that the place in the block stands for.
use Rattle.std.proofs.Common.{◌≡◌, ℕ, zero, suc, ◌+◌, ◌-◌, ◌<◌, ◌≤◌, List, [], ◌∷◌, ◌++◌, length, get_or, set, take, drop, refl, sym, ap, ◌∙◌, arith, append_assoc, append-nil, length-append, length-drop}
use Rattle.std.specs.Prelude.{insert, remove, All}
use Rattle.std.proofs.Math.Seq.{drop-cons, take-suc, take-append-add, drop-append-add}
use Rattle.std.proofs.lemmas.List.{take-append-drop, take-append-le, drop-append-le, set_split, get_or_default, set-append_left, set-append_right, get_or-append_right}
use Rattle.std.proofs.lemmas.List.Edits.{insert_end, insert-append_left, insert-append_right, remove-append_left, remove-append_right}
use Rattle.std.proofs.lemmas.List.Elements.{All-append}
use Rattle.std.proofs.Math.ListN.{get_or-append}
use Rattle.m88_base.specs.Placed.{Placed, AreApart}
use Rattle.m88_base.specs.Inside.Placing.{next_start}
use Rattle.m88_base.proofs.Apart.{apart_lower, apart_front, apart_back}
use Rattle.m88_base.proofs.Cuts.{apart_drop}
use Rattle.m88_base.specs.Inside.Blocks.{all_runs, IsPlaceInBlocks, IsRunInBlocks}

pub all_runs-append : (xs ys : List (List Placed)) → all_runs (xs ++ ys) ≡ all_runs xs ++ all_runs ys
all_runs-append [] ys = refl
all_runs-append (x ∷ xs) ys = rw (all_runs-append xs ys) (sym (append_assoc x (all_runs xs) (all_runs ys)))

-- the runs, those of one block apart
pub around : (bs : List (List Placed)) (b : ℕ) (block : List Placed) → b < length bs → block ≡ get_or bs b block
    → all_runs bs ≡ all_runs (take b bs) ++ (block ++ all_runs (drop (suc b) bs))
around bs b block l is =
    let cut : bs ≡ take b bs ++ block ∷ drop (suc b) bs =
    rw (← is) at (sym (take-append-drop b bs) ∙ ap (λ ys. take b bs ++ ys) (drop-cons bs b block l)) in
    ap all_runs cut ∙ all_runs-append (take b bs) (block ∷ drop (suc b) bs)

pub edited : (bs : List (List Placed)) (b : ℕ) (block : List Placed) → b < length bs
    → all_runs (set bs b block) ≡ all_runs (take b bs) ++ (block ++ all_runs (drop (suc b) bs))
edited bs b block l = rw (set_split bs b block l) (all_runs-append (take b bs) (block ∷ drop (suc b) bs))

pub block_length : (bs : List (List Placed)) (b : ℕ) (block : List Placed) → b < length bs → block ≡ get_or bs b block → get_or bs b [] ≡ block
block_length bs b block l is = get_or_default bs b [] block l ∙ sym is

pub get_at : (bs : List (List Placed)) (b k i : ℕ) (block : List Placed) (run : Placed) → IsRunInBlocks bs b k i → block ≡ get_or bs b block
    → run ≡ get_or block k run → run ≡ get_or (all_runs bs) i run
get_at bs b k i block run p is at =
    let inside : k < length block = rw (block_length bs b block p.place.within is) at p.there in
    let front : length (all_runs (take b bs)) ≤ i = omega (arith, p.place.sum) in
    let off : i - length (all_runs (take b bs)) ≡ k = omega (arith, p.place.sum) in
    rw (
      around bs b block p.place.within is,
      get_or-append_right (all_runs (take b bs)) (block ++ all_runs (drop (suc b) bs)) (length (all_runs (take b bs))) i run refl front,
      off,
      get_or-append block (all_runs (drop (suc b) bs)) run k inside,
    ) at

pub set_at : (bs : List (List Placed)) (b k i : ℕ) (block : List Placed) (run : Placed) → IsRunInBlocks bs b k i → block ≡ get_or bs b block
    → all_runs (set bs b (set block k run)) ≡ set (all_runs bs) i run
set_at bs b k i block run p is =
    let inside : k < length block = rw (block_length bs b block p.place.within is) at p.there in
    let front : length (all_runs (take b bs)) ≤ i = omega (arith, p.place.sum) in
    let off : i - length (all_runs (take b bs)) ≡ k = omega (arith, p.place.sum) in
    rw (
      edited bs b (set block k run) p.place.within,
      around bs b block p.place.within is,
      set-append_right (all_runs (take b bs)) (block ++ all_runs (drop (suc b) bs)) (length (all_runs (take b bs))) i run refl front,
      off,
      set-append_left block (all_runs (drop (suc b) bs)) k run inside,
    ) refl

pub insert_at : (bs : List (List Placed)) (b k i : ℕ) (block : List Placed) (run : Placed) → IsPlaceInBlocks bs b k i → block ≡ get_or bs b block
    → all_runs (set bs b (insert block k run)) ≡ insert (all_runs bs) i run
insert_at bs b k i block run p is =
    let inside : k ≤ length block = rw (block_length bs b block p.within is) at p.room in
    let front : length (all_runs (take b bs)) ≤ i = omega (arith, p.sum) in
    let off : i - length (all_runs (take b bs)) ≡ k = omega (arith, p.sum) in
    edited bs b (insert block k run) p.within ∙ sym (
    ap (λ xs. insert xs i run) (around bs b block p.within is)
    ∙ (insert-append_right (all_runs (take b bs)) (block ++ all_runs (drop (suc b) bs)) (length (all_runs (take b bs))) i run refl front
    ∙ (ap (λ n. all_runs (take b bs) ++ insert (block ++ all_runs (drop (suc b) bs)) n run) off
    ∙ ap (λ ys. all_runs (take b bs) ++ ys) (insert-append_left block (all_runs (drop (suc b) bs)) k run inside))))

pub remove_at : (bs : List (List Placed)) (b k i : ℕ) (block : List Placed) → IsRunInBlocks bs b k i → block ≡ get_or bs b block
    → all_runs (set bs b (remove block k)) ≡ remove (all_runs bs) i
remove_at bs b k i block p is =
    let inside : k < length block = rw (block_length bs b block p.place.within is) at p.there in
    let front : length (all_runs (take b bs)) ≤ i = omega (arith, p.place.sum) in
    let off : i - length (all_runs (take b bs)) ≡ k = omega (arith, p.place.sum) in
    edited bs b (remove block k) p.place.within ∙ sym (
    ap (λ xs. remove xs i) (around bs b block p.place.within is)
    ∙ (remove-append_right (all_runs (take b bs)) (block ++ all_runs (drop (suc b) bs)) (length (all_runs (take b bs))) i refl front
    ∙ (ap (λ n. all_runs (take b bs) ++ remove (block ++ all_runs (drop (suc b) bs)) n) off
    ∙ ap (λ ys. all_runs (take b bs) ++ ys) (remove-append_left block (all_runs (drop (suc b) bs)) k inside))))

-- a run behind all others, in a block of its own
pub begun_at_end : (bs : List (List Placed)) (i : ℕ) (run : Placed) → i ≡ length (all_runs bs) → all_runs (bs ++ (run ∷ []) ∷ []) ≡ insert (all_runs bs) i run
begun_at_end bs i run e = rw e (all_runs-append bs ((run ∷ []) ∷ []) ∙ sym (insert_end (all_runs bs) run))

-- one more block from the front
pub take_runs-suc : (bs : List (List Placed)) (b : ℕ) (block : List Placed) → b < length bs → block ≡ get_or bs b block
    → all_runs (take (suc b) bs) ≡ all_runs (take b bs) ++ block
take_runs-suc bs b block l is =
    rw (take-suc bs b block l, ← is, all_runs-append (take b bs) (block ∷ [])) (ap (λ ys. all_runs (take b bs) ++ ys) (append-nil block))

-- the place of an index in a block that has it
pub place_here : (bs : List (List Placed)) (b k i : ℕ) (block : List Placed) → b < length bs → block ≡ get_or bs b block → length (all_runs (take b bs)) + k ≡ i
    → k ≤ length block → IsPlaceInBlocks bs b k i
place_here bs b k i block l is sum room = record {
  within = l;
  room = rw (block_length bs b block l is) room;
  sum = sum;
}

-- a block in two
pub halved : (bs : List (List Placed)) (b : ℕ) (lower upper : List Placed) → b < length bs → lower ++ upper ≡ get_or bs b []
    → all_runs (insert (set bs b lower) (suc b) upper) ≡ all_runs bs
halved [] b lower upper l whole = absurd (omega arith)
halved (x ∷ bs) zero lower upper l whole = sym (append_assoc lower upper (all_runs bs)) ∙ ap (λ w. w ++ all_runs bs) whole
halved (x ∷ bs) (suc b) lower upper l whole = ap (λ r. x ++ r) (halved bs b lower upper (omega arith) whole)

-- a block without runs taken out
pub emptied : (bs : List (List Placed)) (b : ℕ) (block : List Placed) → b < length bs → length block ≡ 0
    → all_runs (remove (set bs b block) b) ≡ all_runs (set bs b block)
emptied [] b block l none = absurd (omega arith)
emptied (x ∷ bs) zero [] l none = refl
emptied (x ∷ bs) zero (y ∷ ys) l none = absurd (omega arith)
emptied (x ∷ bs) (suc b) block l none = ap (λ r. x ++ r) (emptied bs b block (omega arith) none)

pub block_apart : (bs : List (List Placed)) (b : ℕ) (block : List Placed) → b < length bs → block ≡ get_or bs b block → AreApart 0 (all_runs bs) → AreApart 0 block
block_apart bs b block l is h =
    let front : List Placed = all_runs (take b bs) in
    let rest : List Placed = all_runs (drop (suc b) bs) in
    apart_lower (next_start 0 front) 0 block (omega arith)
    (apart_front (next_start 0 front) block rest (apart_back 0 front (block ++ rest) (rw (around bs b block l is) at h)))

pub within_all : (bs : List (List Placed)) (b : ℕ) (block : List Placed) → b < length bs → block ≡ get_or bs b block
    → length (all_runs (take b bs)) + length block ≤ length (all_runs bs)
within_all bs b block l is =
    let front : List Placed = all_runs (take b bs) in
    let rest : List Placed = all_runs (drop (suc b) bs) in
    omega (arith, ap length (around bs b block l is), length-append front (block ++ rest), length-append block rest)

pub below_in : (bs : List (List Placed)) (b k i a : ℕ) (block : List Placed) → b < length bs → block ≡ get_or bs b block → i ≡ length (all_runs (take b bs))
    → k ≤ length block → All (λ run. run.at ≤ a) (all_runs (take b bs)) → All (λ run. run.at ≤ a) (take k block)
    → All (λ run. run.at ≤ a) (take (i + k) (all_runs bs))
below_in bs b k i a block l is e room p q =
    let front : List Placed = all_runs (take b bs) in
    let rest : List Placed = all_runs (drop (suc b) bs) in
    let cut : take (i + k) (all_runs bs) ≡ front ++ take k block =
    rw (e, around bs b block l is) (take-append-add front (block ++ rest) k ∙ ap (λ ys. front ++ ys) (take-append-le k block rest room)) in
    rw cut (All-append (λ run. run.at ≤ a) front (take k block) p q)

apart_rest : (low from : ℕ) (xs ys : List Placed) → 0 < length xs → AreApart from xs → AreApart low (xs ++ ys) → AreApart from (xs ++ ys)
apart_rest low from [] ys l p q = absurd (omega arith)
apart_rest low from (x ∷ xs) ys l p q = (p.0, q.1, q.2)

pub above_in : (bs : List (List Placed)) (b k i a : ℕ) (block : List Placed) → b < length bs → block ≡ get_or bs b block → i ≡ length (all_runs (take b bs))
    → k < length block → AreApart 0 (all_runs bs) → AreApart (a + 1) (drop k block) → AreApart (a + 1) (drop (i + k) (all_runs bs))
above_in bs b k i a block l is e room h p =
    let front : List Placed = all_runs (take b bs) in
    let rest : List Placed = all_runs (drop (suc b) bs) in
    let cut : drop (i + k) (all_runs bs) ≡ drop k block ++ rest =
    rw (e, around bs b block l is) (drop-append-add front (block ++ rest) k ∙ drop-append-le k block rest (omega arith)) in
    let some : 0 < length (drop k block) = omega (arith, length-drop k block) in
    rw cut (apart_rest (next_start 0 (take (i + k) (all_runs bs))) (a + 1) (drop k block) rest some p (rw cut at (apart_drop (all_runs bs) (i + k) h)))

pub length-take_runs : (bs : List (List Placed)) (b : ℕ) (block : List Placed) → b < length bs → block ≡ get_or bs b block
    → length (all_runs (take (suc b) bs)) ≡ length (all_runs (take b bs)) + length block
length-take_runs bs b block l is = ap length (take_runs-suc bs b block l is) ∙ length-append (all_runs (take b bs)) block
