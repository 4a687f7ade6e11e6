-- A listing is short enough to be read.
use Rattle.std.proofs.Common.{◌≡◌, ℕ, ◌+◌, ◌*◌, ◌<◌, ◌≤◌, ◌^◌, List, [], ◌∷◌, ◌++◌, length, take, ap, ◌∙◌, length-append, arith}
use Rattle.std.specs.Prelude.{Some, slice_get}
use Rattle.std.proofs.lemmas.List.{take_more}
use Rattle.std.proofs.lemmas.List.Sums.{sum_by_push}
use Rattle.std.proofs.lemmas.Option.{get_or_from_slice_get, slice_get_within}
use Rattle.m88_base.specs.Image.{IsImage, ProgramImage, byte_count, parts}
use Rattle.m88_base.specs.Lines.{line_end}
use Rattle.m88_base.specs.Placed.{Placed, count_among}
use Rattle.m88_disasm.specs.Listing.{place_line, start_line}
use Rattle.m88_disasm.specs.declared.lister.TheConstants.{MOST_LINE, MOST_PER_BYTE}

-- one part more
pub more_room : (runs : List Placed) (k : ℕ) (run : Placed) (t0 t1 t2 t3 : List ℕ) → slice_get runs k ≡ Some run
    → 0 < length run.bytes → length t1 ≤ length t0 + MOST_PER_BYTE * count_among (take k runs)
    → t2 ≡ t1 ++ (place_line run.at ++ line_end) → length t3 ≤ length t2 + MOST_LINE * length run.bytes
    → length t3 ≤ length t0 + MOST_PER_BYTE * count_among (take (k + 1) runs)
more_room runs k run t0 t1 t2 t3 found some before place own =
    let more : take (k + 1) runs ≡ take k runs ++ run ∷ [] =
    take_more runs k run (slice_get_within runs k run found)
    ∙ ap (λ (r : Placed). take k runs ++ r ∷ []) (get_or_from_slice_get runs k run run found) in
    let count : count_among (take (k + 1) runs) ≡ count_among (take k runs) + length run.bytes =
    ap count_among more ∙ sum_by_push (λ (r : Placed). length r.bytes) (take k runs) run in
    let len : length t2 ≡ length t1 + 15 = ap length place ∙ length-append t1 (place_line run.at ++ line_end) in
    omega (arith, count, len)

-- the start and all parts
pub short_text : (image : ProgramImage) (start : ℕ) (t0 t1 t2 : List ℕ) → IsImage image → t0 ≡ []
    → t1 ≡ t0 ++ (start_line start ++ line_end) → length t2 ≤ length t1 + MOST_PER_BYTE * count_among (parts image)
    → length t2 < 2 ^ 31
unfolding byte_count
short_text image start t0 t1 t2 is none first room =
    let few : count_among (parts image) ≤ 1048576 = is.few in
    let len : length t1 ≡ length t0 + 23 = ap length first ∙ length-append t0 (start_line start ++ line_end) in
    let zero : length t0 ≡ 0 = ap length none in
    omega (arith, few, len, zero)
