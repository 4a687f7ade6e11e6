-- The runs ahead of each block, counted, and the blocks in which an index and an address are found by halving.
use Rattle.std.proofs.Common.{◌≡◌, ℕ, zero, suc, ◌+◌, ◌-◌, ◌<◌, ◌≤◌, List, [], ◌∷◌, ◌++◌, length, get_or, set, take, drop, refl, sym, ap, ◌∙◌, ◌≢◌, arith, inl, inr, add-zero, length-append, length-drop, length-take}
use Rattle.std.specs.Prelude.{insert, All}
use Rattle.std.proofs.lemmas.List.Edits.{insert_end}
use Rattle.std.proofs.lemmas.List.Elements.{All-append, All-cons}
use Rattle.std.specs.List.Sorted.{IsNonDecreasingBy}
use Rattle.std.proofs.lemmas.Bool.{leb-true, leb-false}
use Rattle.std.proofs.lemmas.Bool.Decides.{leb_tells}
use Rattle.std.proofs.lemmas.List.{take-append-drop, take_all, get_or_default, get_or-drop, get_or-take, get_or-append_right, get_or-set_same, get_or-set_other}
use Rattle.std.proofs.Math.ListN.{get_or-append}
use Rattle.m88_base.specs.Placed.{Placed, AreApart}
use Rattle.m88_base.proofs.Cuts.{starts_rise, apart_from_first, apart_drop}
use Rattle.m88_base.proofs.InBlocks.{all_runs-append, around, block_length, get_at, place_here, length-take_runs, within_all, below_in, above_in}
use Rattle.m88_base.specs.Inside.Placing.{IsCut, IsCutBy, IsLastBy}
use Rattle.m88_base.specs.Inside.Blocks.{all_runs, first_start, AreNonempty, CountsTo, IsCounted, IsPlaceInBlocks, IsRunInBlocks}

-- no fewer runs are ahead of a later block
pub ahead_grows : (bs : List (List Placed)) (i j : ℕ) → i ≤ j → length (all_runs (take i bs)) ≤ length (all_runs (take j bs))
ahead_grows [] zero zero l = omega arith
ahead_grows [] zero (suc j) l = omega arith
ahead_grows [] (suc i) zero l = absurd (omega arith)
ahead_grows [] (suc i) (suc j) l = omega arith
ahead_grows (x ∷ bs) zero j l = omega arith
ahead_grows (x ∷ bs) (suc i) zero l = absurd (omega arith)
ahead_grows (x ∷ bs) (suc i) (suc j) l =
    omega (arith, length-append x (all_runs (take i bs)), length-append x (all_runs (take j bs)), ahead_grows bs i j (omega arith))

pub counts_rise : (starts : List ℕ) (bs : List (List Placed)) → IsCounted starts bs → IsNonDecreasingBy (λ n. n) starts
counts_rise starts bs c = λ i j d l m.
    let here : i < length bs = omega (arith, c.long) in
    let there : j < length bs = omega (arith, c.long) in
    let low : get_or starts i d ≡ length (all_runs (take i bs)) = get_or_default starts i d 0 (omega arith) ∙ c.each i here in
    let high : get_or starts j d ≡ length (all_runs (take j bs)) = get_or_default starts j d 0 m ∙ c.each j there in
    omega (arith, low, high, ahead_grows bs i j l)

pub counted_at : (starts : List ℕ) (bs : List (List Placed)) (b n : ℕ) → IsCounted starts bs → b < length bs → n ≡ get_or starts b n
    → n ≡ length (all_runs (take b bs))
counted_at starts bs b n c l is = is ∙ (get_or_default starts b n 0 (omega (arith, l, c.long)) ∙ c.each b l)

-- the last block that begins at or below an index has its run
pub place_at : (starts : List ℕ) (bs : List (List Placed)) (i n start : ℕ) → IsCounted starts bs → i < length (all_runs bs)
    → IsCutBy (λ start. start) starts i n → 0 < n → start ≡ get_or starts (n - 1) start → (start ≤ i) × IsRunInBlocks bs (n - 1) (i - start) i
place_at starts bs i n start c l p some is =
    let b : ℕ = n - 1 in
    let within : b < length bs = omega (arith, c.long, p.bound, some) in
    let here : start ≡ length (all_runs (take b bs)) = counted_at starts bs b start c within is in
    let low : start ≤ i = rw (← is) at (leb-true _ _ (p.parted.0 b start (omega (arith, p.bound, some)) (omega (arith, some)))) in
    let block : List Placed = get_or bs b [] in
    let more : length (all_runs (take (suc b) bs)) ≡ length (all_runs (take b bs)) + length block =
    length-take_runs bs b block within (get_or_default bs b [] block within) in
    let high : i < length (all_runs (take (suc b) bs)) =
    elim (leb_tells (length bs) (suc b)) [
      | inl all ↦ rw (take_all (suc b) bs all.1) l
      | inr more ↦ omega (arith, leb-false _ _ (p.parted.1 (suc b) 0 (omega (arith, some)) (omega (arith, more.1, c.long))), c.each (suc b) more.1)
    ] in
    let inside : i - start < length block = omega (arith, here, low, more, high) in
    (low, record { place = record { within = within; room = omega (arith, inside); sum = omega (arith, here, low) }; there = inside })

-- the first run of a block
pub begins_block : (bs : List (List Placed)) (b : ℕ) (block : List Placed) (d : Placed) → b < length bs → block ≡ get_or bs b block → 0 < length block
    → (get_or (all_runs bs) (length (all_runs (take b bs))) d).at ≡ first_start block
begins_block bs b block d l is some =
    let front : List Placed = all_runs (take b bs) in
    let rest : List Placed = all_runs (drop (suc b) bs) in
    let off : length front - length front ≡ 0 = omega arith in
    rw (
      around bs b block l is,
      get_or-append_right front (block ++ rest) (length front) (length front) d refl (omega arith),
      off,
      get_or-append block rest d 0 some,
    ) (first block some)
  where
    first : (block : List Placed) → 0 < length block → (get_or block 0 d).at ≡ first_start block
    first [] h = absurd (omega arith)
    first (x ∷ xs) h = refl

pub firsts_rise : (bs : List (List Placed)) → AreNonempty bs → AreApart 0 (all_runs bs) → IsNonDecreasingBy first_start bs
firsts_rise bs nonempty apart = λ i j d l m.
    let none : Placed = record { at = 0; bytes = [] } in
    let here : i < length bs = omega arith in
    let low = begins_block bs i (get_or bs i d) none here (get_or_default bs i d (get_or bs i d) here) (nonempty i d here) in
    let high = begins_block bs j (get_or bs j d) none m (get_or_default bs j d (get_or bs j d) m) (nonempty j d m) in
    let inside = within_all bs j (get_or bs j d) m (get_or_default bs j d (get_or bs j d) m) in
    let some = nonempty j d m in
    rw (← low, ← high) (starts_rise 0 (all_runs bs) (length (all_runs (take i bs))) (length (all_runs (take j bs))) none apart (ahead_grows bs i j l) (omega arith))

-- the runs ahead of a block that begins at or below an address begin below it too
pub front_below : (bs : List (List Placed)) (b a : ℕ) (block : List Placed) → b < length bs → block ≡ get_or bs b block → 0 < length block
    → AreApart 0 (all_runs bs) → first_start block ≤ a → All (λ run. run.at ≤ a) (all_runs (take b bs))
front_below bs b a block l is some apart low = λ k d h.
    let front : List Placed = all_runs (take b bs) in
    let rest : List Placed = all_runs (drop (suc b) bs) in
    let inside = within_all bs b block l is in
    let same : get_or (all_runs bs) k d ≡ get_or front k d = rw (around bs b block l is) (get_or-append front (block ++ rest) d k h) in
    let rise = starts_rise 0 (all_runs bs) k (length front) d apart (omega arith) (omega arith) in
    rw (← same) (omega (arith, rise, begins_block bs b block d l is some, low))

-- the runs behind some blocks lie above an address below the first of them
pub above_blocks : (bs : List (List Placed)) (n a : ℕ) → AreNonempty bs → AreApart 0 (all_runs bs)
    → ((d : List Placed) → n < length bs → a < first_start (get_or bs n d))
    → AreApart (a + 1) (drop (length (all_runs (take n bs))) (all_runs bs))
above_blocks bs n a nonempty apart high =
    let m : ℕ = length (all_runs (take n bs)) in
    apart_from_first _ _ _ (apart_drop (all_runs bs) m apart) (λ d h. elim (leb_tells (length bs) n) [
      | inl all ↦ absurd (omega (arith, length-drop m (all_runs bs), h, ap (λ ys. length (all_runs ys)) (take_all n bs all.1)))
      | inr some ↦
          let block : List Placed = get_or bs n [] in
          let first = begins_block bs n block d some.1 (get_or_default bs n [] block some.1) (nonempty n [] some.1) in
          rw (get_or-drop, add-zero) (omega (arith, first, high [] some.1))
    ])

-- what is behind an index in a block is above an address, where the next block is
pub above_here : (bs : List (List Placed)) (b k i a : ℕ) (block : List Placed) → b < length bs → block ≡ get_or bs b block → i ≡ length (all_runs (take b bs))
    → k ≤ length block → AreNonempty bs → AreApart 0 (all_runs bs) → AreApart (a + 1) (drop k block)
    → ((d : List Placed) → suc b < length bs → a < first_start (get_or bs (suc b) d)) → AreApart (a + 1) (drop (i + k) (all_runs bs))
above_here bs b k i a block l is e room nonempty apart p high =
    elim (leb_tells (length block) k) [
      | inr some ↦ above_in bs b k i a block l is e some.1 apart p
      | inl all ↦
          let past : i + k ≡ length (all_runs (take (suc b) bs)) = omega (arith, e, room, all.1, length-take_runs bs b block l is) in
          rw past (above_blocks bs (suc b) a nonempty apart high)
    ]

-- what the count of the block before an index and its length come to
pub ahead_next : (starts : List ℕ) (bs : List (List Placed)) (from : ℕ) (block : List Placed) → CountsTo from starts bs → 0 < from → from ≤ length bs
    → block ≡ get_or bs (from - 1) block → get_or starts (from - 1) 0 + length block ≡ length (all_runs (take from bs))
ahead_next starts bs zero block c some l is = absurd (omega arith)
ahead_next starts bs (suc b) block c some l is =
    let e : suc b - 1 ≡ b = omega arith in
    rw e (omega (arith, c b (omega arith), length-take_runs bs b block (omega arith) (rw e at is)))

-- no more runs are ahead of a block than there are
pub ahead_within : (bs : List (List Placed)) (n : ℕ) → length (all_runs (take n bs)) ≤ length (all_runs bs)
ahead_within bs n =
    omega (
      arith,
      ap (λ ys. length (all_runs ys)) (take-append-drop n bs),
      ap length (all_runs-append (take n bs) (drop n bs)),
      length-append (all_runs (take n bs)) (all_runs (drop n bs)),
    )

-- one more count
pub counts_more : (n : ℕ) (starts : List ℕ) (bs : List (List Placed)) → n < length starts → CountsTo n starts bs
    → CountsTo (suc n) (set starts n (length (all_runs (take n bs)))) bs
counts_more n starts bs l c = λ k h. elim (leb_tells n k) [
  | inl last ↦
      let e : k ≡ n = omega (arith, last.1, h) in
      rw e (get_or-set_same starts n (length (all_runs (take n bs))) 0 l)
  | inr below ↦
      let other : k ≢ n = omega (arith, below.1) in
      get_or-set_other starts n k (length (all_runs (take n bs))) 0 other ∙ c k below.1
]

-- blocks of which one has other runs, as many as before
pub counts_kept : (n : ℕ) (starts : List ℕ) (bs : List (List Placed)) (b : ℕ) (block : List Placed) → b < length bs → length block ≡ length (get_or bs b [])
    → CountsTo n starts bs → CountsTo n starts (set bs b block)
counts_kept n starts bs b block l same c = λ k h. c k h ∙ sym (kept bs b k block same)
  where
    kept : (bs : List (List Placed)) (b k : ℕ) (block : List Placed) → length block ≡ length (get_or bs b [])
        → length (all_runs (take k (set bs b block))) ≡ length (all_runs (take k bs))
    kept [] b k block same = refl
    kept (x ∷ bs) zero zero block same = refl
    kept (x ∷ bs) zero (suc k) block same = omega (arith, length-append block (all_runs (take k bs)), length-append x (all_runs (take k bs)), same)
    kept (x ∷ bs) (suc b) zero block same = refl
    kept (x ∷ bs) (suc b) (suc k) block same =
        omega (arith, length-append x (all_runs (take k (set bs b block))), length-append x (all_runs (take k bs)), kept bs b k block same)

-- one more block that isn't empty
pub nonempty_with : (bs : List (List Placed)) (i : ℕ) (block : List Placed) → 0 < length block → AreNonempty bs → AreNonempty (insert bs i block)
nonempty_with bs i block some nonempty =
    All-append (λ runs. 0 < length runs) (take i bs) (block ∷ drop i bs) (λ k d h. rw (get_or-take i bs k d (omega (arith, length-take i bs))) (nonempty k d (omega (arith, length-take i bs))))
    (All-cons (λ runs. 0 < length runs) block (drop i bs) some (λ k d h. rw get_or-drop (nonempty (i + k) d (omega (arith, length-drop i bs)))))

-- no run begins anywhere where there is none
pub none_at_all : (runs : List Placed) (a : ℕ) → length runs ≡ 0 → IsCut runs 0 a
none_at_all [] a none = record { bound = omega arith; below = λ k d l. absurd (omega (arith, l)); above = tt }
none_at_all (run ∷ runs) a none = absurd (omega (arith, none))

-- where no block begins at or below an address, no run does
pub none_here : (bs : List (List Placed)) (n a : ℕ) → AreNonempty bs → AreApart 0 (all_runs bs) → IsCutBy first_start bs a n → n ≡ 0 → IsCut (all_runs bs) 0 a
none_here bs n a nonempty apart cut none = record {
  bound = omega arith;
  below = λ k d l. absurd (omega (arith, l));
  above = above_blocks bs 0 a nonempty apart (λ d l. omega (arith, leb-false _ _ (cut.parted.1 0 d (omega (arith, none)) l)));
}

-- the last block that begins at or below an address
pub begun_block : (bs : List (List Placed)) (n a : ℕ) (block : List Placed) → IsCutBy first_start bs a n → 0 < n → block ≡ get_or bs (n - 1) block
    → (n - 1 < length bs) × (first_start block ≤ a) × ((d : List Placed) → suc (n - 1) < length bs → a < first_start (get_or bs (suc (n - 1)) d))
begun_block bs n a block cut some is = (
  omega (arith, cut.bound, some),
  rw (← is) at (leb-true _ _ (cut.parted.0 (n - 1) block (omega (arith, cut.bound, some)) (omega (arith, some)))),
  λ d l. omega (arith, leb-false _ _ (cut.parted.1 (suc (n - 1)) d (omega (arith, some)) l)),
)

-- what is located in the last block that begins at or below an address is located in all
pub located : (bs : List (List Placed)) (n k i a : ℕ) (block : List Placed) → AreNonempty bs → AreApart 0 (all_runs bs) → IsCutBy first_start bs a n → 0 < n
    → block ≡ get_or bs (n - 1) block → i ≡ length (all_runs (take (n - 1) bs)) → IsCut block k a → IsCut (all_runs bs) (i + k) a
located bs n k i a block nonempty apart cut some is e inner =
    let begun = begun_block bs n a block cut some is in
    let l : n - 1 < length bs = begun.0 in
    let filled : 0 < length block = rw (← is) at (nonempty (n - 1) block l) in
    record {
      bound = omega (arith, e, inner.bound, within_all bs (n - 1) block l is);
      below = below_in bs (n - 1) k i a block l is e inner.bound (front_below bs (n - 1) a block l is filled apart begun.1) inner.below;
      above = above_here bs (n - 1) k i a block l is e inner.bound nonempty apart inner.above begun.2;
    }

-- the last run of that block that begins at or below the address is the last of all
pub last_here : (bs : List (List Placed)) (n a : ℕ) (block : List Placed) (run : Placed) → AreNonempty bs → AreApart 0 (all_runs bs) → IsCutBy first_start bs a n
    → 0 < n → block ≡ get_or bs (n - 1) block → IsLastBy block a run → IsLastBy (all_runs bs) a run
last_here bs n a block run nonempty apart cut some is last =
    let front : ℕ = length (all_runs (take (n - 1) bs)) in
    let k : ℕ = last.index - 1 in
    let l : n - 1 < length bs = (begun_block bs n a block cut some is).0 in
    let inside : k < length block = omega (arith, last.some, last.cut.bound) in
    let room : k < length (get_or bs (n - 1) []) = rw (block_length bs (n - 1) block l is) inside in
    let place : IsPlaceInBlocks bs (n - 1) k (front + last.index - 1) =
    place_here bs (n - 1) k (front + last.index - 1) block l is (omega (arith, last.some)) (omega (arith, inside)) in
    record {
      from = last.from;
      index = front + last.index;
      some = omega (arith, last.some);
      cut = located bs n last.index front a block nonempty apart cut some is refl last.cut;
      is = get_at bs (n - 1) k (front + last.index - 1) block run (record { place = place; there = room }) is last.is;
    }

-- one more block behind the others
pub nonempty_end : (bs : List (List Placed)) (block : List Placed) → 0 < length block → AreNonempty bs → AreNonempty (bs ++ block ∷ [])
nonempty_end bs block some nonempty = rw (insert_end bs block) at (nonempty_with bs (length bs) block some nonempty)
