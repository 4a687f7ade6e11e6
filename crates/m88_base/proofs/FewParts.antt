-- An image has no more parts than bytes: each part has one.
use Rattle.std.proofs.Common.{◌≡◌, ℕ, ◌+◌, ◌≤◌, List, [], ◌∷◌, length, arith}
use Rattle.std.proofs.lemmas.List.Sums.{sum_by-cons}
use Rattle.m88_base.specs.Placed.{Placed, AreApart, count_among}
use Rattle.m88_base.specs.Image.{IsImage, ProgramImage, byte_count, parts}

-- runs with gaps between them
no_more_runs : (from : ℕ) (runs : List Placed) → AreApart from runs → length runs ≤ count_among runs
no_more_runs from [] h = omega arith
no_more_runs from (run ∷ runs) h =
    let count : count_among (run ∷ runs) ≡ length run.bytes + count_among runs =
    sum_by-cons (λ (r : Placed). length r.bytes) run runs in
    omega (arith, h.1, count, no_more_runs (run.at + length run.bytes + 1) runs h.2)

-- the parts of an image
pub few_parts : (image : ProgramImage) → IsImage image → length (parts image) ≤ byte_count image
unfolding byte_count
few_parts image is = no_more_runs 0 image.runs is.apart
