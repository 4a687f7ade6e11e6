-- How long the text of an image is at most.
use Rattle.std.proofs.Common.{◌≡◌, ℕ, zero, suc, ◌+◌, ◌*◌, ◌^◌, ◌<◌, ◌≤◌, List, [], ◌∷◌, ◌++◌, length, take, drop, sym, refl, ap, subst, length-append, length-take, take-append-drop, arith}
use Rattle.std.specs.Prelude.{codes}
use Rattle.std.specs.Int.{to_be_bytes, w32}
use Rattle.std.specs.List.{flat_map}
use Rattle.std.proofs.lemmas.List.{length-drop}
use Rattle.std.proofs.lemmas.List.Concat.{flat_map-append}
use Rattle.std.proofs.lemmas.List.Sums.{sum_by-cons}
use Rattle.m88_base.specs.Hex.{hex2}
use Rattle.m88_base.specs.Image.{IsImage, ProgramImage, byte_count, most_bytes, parts}
use Rattle.m88_base.specs.Lines.{line_end, text_of_lines}
use Rattle.m88_base.specs.Placed.{Placed, count_among}
use Rattle.m88_srec.specs.Records.{check_of, counted, framed}
use Rattle.m88_srec.specs.Written.{data_line, data_lines, header_line, last_line, part_lines, record_line, srec_text}
use Rattle.m88_srec.proofs.Cutting.{next_line, no_lines}

length_digits : (bytes : List ℕ) → length (flat_map hex2 bytes) ≡ 2 * length bytes
length_digits [] = refl
length_digits (b ∷ bytes) = let rest = length_digits bytes in omega arith

-- a line with its end
length_line : (digit : ℕ) (body : List ℕ) → length (record_line digit body ++ line_end) ≡ 2 * length body + 7
unfolding record_line
length_line digit body =
    let frame = length-append (counted body) (check_of (counted body) ∷ []) in
    let digits = length_digits (framed body) in
    let whole = length-append (record_line digit body) line_end in
    omega (arith, frame, digits, whole)

length_data_line : (at : ℕ) (given : List ℕ) → length (data_line at given ++ line_end) ≡ 2 * length given + 15
length_data_line at given =
    let body = length-append (to_be_bytes w32 at) given in
    let line = length_line 51 (to_be_bytes w32 at ++ given) in
    omega (arith, body, line)

-- the lines of bytes
data_text_short : (fuel at : ℕ) (bytes : List ℕ) → length bytes ≤ fuel → length (text_of_lines (data_lines at bytes)) ≤ 47 * length bytes
data_text_short fuel at [] h = subst (λ (ls : List (List ℕ)). length (text_of_lines ls) ≤ 0) (sym (no_lines at)) (omega arith)
data_text_short zero at (b ∷ bs) h = absurd (omega arith)
data_text_short (suc fuel) at (b ∷ bs) h =
    let bytes : List ℕ = b ∷ bs in
    let piece : List ℕ = take 16 bytes in
    let left : List ℕ = drop 16 bytes in
    let next : ℕ = at + length piece in
    let size = length-take 16 bytes in
    let long = length-drop 16 bytes in
    let rest = data_text_short fuel next left (omega (arith, long)) in
    let line = length_data_line at piece in
    let joined = length-append (data_line at piece ++ line_end) (text_of_lines (data_lines next left)) in
    let cut = next_line at bytes piece left (sym (take-append-drop 16 bytes)) size (omega arith) in
    let short : length (text_of_lines (data_line at piece ∷ data_lines next left)) ≤ 47 * length bytes =
    omega (arith, size, long, rest, line, joined) in
    subst (λ (ls : List (List ℕ)). length (text_of_lines ls) ≤ 47 * length bytes) (sym cut) short

-- the lines of parts
parts_text_short : (ps : List Placed) → length (text_of_lines (flat_map part_lines ps)) ≤ 47 * count_among ps
parts_text_short [] = omega arith
parts_text_short (p ∷ ps) =
    let first = data_text_short (length p.bytes) p.at p.bytes (omega arith) in
    let rest = parts_text_short ps in
    let size = sum_by-cons (λ (q : Placed). length q.bytes) p ps in
    let text = flat_map-append (λ line. line ++ line_end) (part_lines p) (flat_map part_lines ps) in
    let joined = length-append (text_of_lines (part_lines p)) (text_of_lines (flat_map part_lines ps)) in
    omega (arith, first, rest, size, ap length text, joined)

-- the text of an image
pub image_text_short : (image : ProgramImage) (text : List ℕ) → IsImage image → text ≡ srec_text image → length text < 2 ^ 31
unfolding srec_text byte_count
image_text_short image text is text_is =
    let few : count_among (parts image) ≤ most_bytes = is.few in
    let ends : List (List ℕ) = last_line image.start ∷ [] in
    let head = length_line 48 (0 ∷ 0 ∷ codes "M88") in
    let body = parts_text_short (parts image) in
    let end = length_line 55 (to_be_bytes w32 image.start) in
    let tail = flat_map-append (λ line. line ++ line_end) (flat_map part_lines (parts image)) ends in
    let joined = length-append (text_of_lines (flat_map part_lines (parts image))) (text_of_lines ends) in
    let last = length-append (last_line image.start ++ line_end) [] in
    let whole = length-append (header_line ++ line_end) (text_of_lines (flat_map part_lines (parts image) ++ ends)) in
    let size : length text ≡ length (srec_text image) = ap length text_is in
    omega (arith, few, head, body, end, ap length tail, joined, last, whole, size)
