-- Blocks once a run of one of them is another.
use Rattle.std.proofs.Common.{◌≡◌, ℕ, ◌<◌, List, [], get_or, set, length, length-set, refl, sym, ◌∙◌, arith}
use Rattle.std.proofs.lemmas.List.{get_or_default}
use Rattle.std.proofs.lemmas.List.Elements.{All-set}
use Rattle.m88_base.specs.Placed.{Placed}
use Rattle.m88_base.specs.Inside.Blocks.{AreNonempty, IsCounted, IsRunInBlocks, all_runs, no_run, run_at}
use Rattle.m88_base.proofs.InBlocks.{block_length, get_at, set_at}
use Rattle.m88_base.proofs.Counting.{counts_kept}
use Rattle.m88_base.proofs.Edits.{stands}

-- the run in a block is that of all runs
pub run_here : (bs : List (List Placed)) (b k i : ℕ) (block : List Placed) → IsRunInBlocks bs b k i → block ≡ get_or bs b block
    → i < length (all_runs bs) → run_at block k ≡ run_at (all_runs bs) i
run_here bs b k i block place is within =
    let inside : k < length block = rw (block_length bs b block place.place.within is) at place.there in
    get_at bs b k i block (run_at block k) place is (stands block k inside) ∙ sym (get_or_default (all_runs bs) i no_run (run_at block k) within)

-- the blocks are as many, each with a run, and counted
pub kept_with : (len : ℕ) (starts : List ℕ) (bs : List (List Placed)) (b k i : ℕ) (block new : List Placed) (run : Placed) → IsRunInBlocks bs b k i
    → block ≡ get_or bs b block → new ≡ set block k run → (len ≡ length (all_runs bs)) × AreNonempty bs × IsCounted starts bs
    → (len ≡ length (all_runs (set bs b new))) × AreNonempty (set bs b new) × IsCounted starts (set bs b new)
kept_with len starts bs b k i block new run place is e h =
    let within : b < length bs = place.place.within in
    let same : get_or bs b [] ≡ block = block_length bs b block within is in
    let long : length new ≡ length (get_or bs b []) = rw (same, e, length-set) refl in
    let some : 0 < length new = omega (arith, long, h.1 b [] within) in
    let changed : all_runs (set bs b new) ≡ set (all_runs bs) i run = rw e (set_at bs b k i block run place is) in (
      rw (changed, length-set) h.0,
      All-set (λ runs. 0 < length runs) bs b new some h.1,
      record {
        long = rw length-set h.2.long;
        each = rw length-set (counts_kept (length bs) starts bs b new within long h.2.each);
      },
    )
