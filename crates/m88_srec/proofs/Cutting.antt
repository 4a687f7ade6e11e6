-- Bytes cut into the lines of sixteen, and texts of lines put together.
use Rattle.std.proofs.Common.{◌≡◌, ℕ, ◌+◌, ◌*◌, ◌<◌, min, List, [], ◌∷◌, ◌++◌, length, map, take, sym, refl, ap, ◌∙◌, append_assoc, append-nil, length-append, arith}
use Rattle.std.specs.List.{enumerate_from, flat_map}
use Rattle.std.proofs.lemmas.List.Concat.{flat_map-append}
use Rattle.std.proofs.lemmas.List.{nil_from_length, take_more}
use Rattle.std.proofs.lemmas.Option.{get_or_from_slice_get, slice_get_within}
use Rattle.std.specs.Prelude.{Some, slice_get}
use Rattle.m88_base.specs.Image.{ProgramImage, parts}
use Rattle.m88_base.specs.Placed.{Placed}
use Rattle.m88_base.specs.Lines.{line_end, text_of_lines}
use Rattle.m88_base.specs.Pieces.{pieces}
use Rattle.m88_base.proofs.Laws.{next_piece, no_pieces}
use Rattle.m88_srec.specs.Written.{data_line, data_lines, last_line, header_line, part_lines, piece_line, srec_text}

-- pieces with the next number from an address on, and with their own from the next line's on
moved : (at n : ℕ) (ps : List (List ℕ)) → map (piece_line at) (enumerate_from (n + 1) ps) ≡ map (piece_line (at + 16)) (enumerate_from n ps)
moved at n [] = refl
moved at n (p ∷ ps) =
    let e : at + (n + 1) * 16 ≡ at + 16 + n * 16 = omega arith in
    ap (λ (k : ℕ). data_line k p ∷ map (piece_line at) (enumerate_from (n + 1 + 1) ps)) e
    ∙ ap (λ (ls : List (List ℕ)). data_line (at + 16 + n * 16) p ∷ ls) (moved at (n + 1) ps)

-- no byte has no line
pub no_lines : (at : ℕ) → data_lines at [] ≡ []
unfolding data_lines
no_lines at = ap (λ (ps : List (List ℕ)). map (piece_line at) (enumerate_from 0 ps)) (no_pieces 16 (omega arith))

-- the first line, and those behind it
pub next_line : (at : ℕ) (bytes piece rest : List ℕ) → bytes ≡ piece ++ rest → length piece ≡ min 16 (length bytes) → 0 < length bytes
    → data_lines at bytes ≡ data_line at piece ∷ data_lines (at + length piece) rest
unfolding data_lines
next_line at bytes piece rest parts size some =
    let zero_more : at + 0 * 16 ≡ at = omega arith in
    ap (λ (ps : List (List ℕ)). map (piece_line at) (enumerate_from 0 ps)) (next_piece 16 (omega arith) bytes piece rest parts size some)
    ∙ ap (λ (k : ℕ). data_line k piece ∷ map (piece_line at) (enumerate_from 1 (pieces 16 rest))) zero_more
    ∙ ap (λ (ls : List (List ℕ)). let ms : List (List ℕ) = data_line at piece ∷ ls in ms) (moved at 0 (pieces 16 rest) ∙ behind rest long)
  where
    long : length piece + length rest ≡ length bytes
    long = sym (length-append piece rest) ∙ sym (ap length parts)

    behind : (rest : List ℕ) → length piece + length rest ≡ length bytes → data_lines (at + 16) rest ≡ data_lines (at + length piece) rest
    behind [] e = no_lines (at + 16) ∙ sym (no_lines (at + length piece))
    behind (b ∷ rest) e = let whole : at + 16 ≡ at + length piece = omega (arith, e, size) in ap (λ (k : ℕ). data_lines k (b ∷ rest)) whole

-- one piece more of some bytes
pub more_of_part : (front now all piece rest bytes : List ℕ) (at done : ℕ) → bytes ≡ piece ++ rest
    → length piece ≡ min 16 (length bytes) → 0 < length bytes
    → now ≡ front ++ (data_line (at + done) piece ++ line_end)
    → front ++ text_of_lines (data_lines (at + done) bytes) ≡ all
    → now ++ text_of_lines (data_lines (at + (done + length piece)) rest) ≡ all
more_of_part front now all piece rest bytes at done parts size some now_is before =
    let line : List ℕ = data_line (at + done) piece ++ line_end in
    let next : at + (done + length piece) ≡ at + done + length piece = omega arith in
    let left : List ℕ = text_of_lines (data_lines (at + done + length piece) rest) in
    ap (λ (k : ℕ). now ++ text_of_lines (data_lines k rest)) next
    ∙ ap (λ (xs : List ℕ). xs ++ left) now_is
    ∙ append_assoc front line left
    ∙ ap (λ (ls : List (List ℕ)). front ++ text_of_lines ls) (sym (next_line (at + done) bytes piece rest parts size some))
    ∙ before

-- no byte is left
pub end_of_part : (now all rest : List ℕ) (at : ℕ) → length rest ≡ 0 → now ++ text_of_lines (data_lines at rest) ≡ all
    → now ≡ all
end_of_part now all rest at none e =
    let no_line : data_lines at rest ≡ [] = ap (data_lines at) (nil_from_length rest none) ∙ no_lines at in
    sym (append-nil now) ∙ ap (λ (ls : List (List ℕ)). now ++ text_of_lines ls) (sym no_line) ∙ e

-- one part more
pub more_parts : (old now later : List ℕ) (ps : List Placed) (i : ℕ) (p : Placed) → slice_get ps i ≡ Some p
    → now ≡ old ++ text_of_lines (flat_map part_lines (take i ps))
    → later ≡ now ++ text_of_lines (part_lines p)
    → later ≡ old ++ text_of_lines (flat_map part_lines (take (i + 1) ps))
more_parts old now later ps i p found now_is later_is =
    let more : take (i + 1) ps ≡ take i ps ++ p ∷ [] = taken_more ps i p found in
    let lines : flat_map part_lines (take i ps ++ p ∷ []) ≡ flat_map part_lines (take i ps) ++ (part_lines p ++ []) =
    flat_map-append part_lines (take i ps) (p ∷ []) in
    let text : text_of_lines (flat_map part_lines (take i ps) ++ part_lines p)
    ≡ text_of_lines (flat_map part_lines (take i ps)) ++ text_of_lines (part_lines p) =
    flat_map-append (λ line. line ++ line_end) (flat_map part_lines (take i ps)) (part_lines p) in
    later_is
    ∙ ap (λ (xs : List ℕ). xs ++ text_of_lines (part_lines p)) now_is
    ∙ append_assoc old (text_of_lines (flat_map part_lines (take i ps))) (text_of_lines (part_lines p))
    ∙ ap (λ (xs : List ℕ). old ++ xs) (sym text)
    ∙ ap (λ (ls : List (List ℕ)). old ++ text_of_lines (flat_map part_lines (take i ps) ++ ls)) (sym (append-nil (part_lines p)))
    ∙ ap (λ (ls : List (List ℕ)). old ++ text_of_lines ls) (sym lines)
    ∙ ap (λ (qs : List Placed). old ++ text_of_lines (flat_map part_lines qs)) (sym more)
  where
    taken_more : (ps : List Placed) (i : ℕ) (p : Placed) → slice_get ps i ≡ Some p → take (i + 1) ps ≡ take i ps ++ p ∷ []
    taken_more ps i p found =
        take_more ps i p (slice_get_within ps i p found)
        ∙ ap (λ (q : Placed). take i ps ++ q ∷ []) (get_or_from_slice_get ps i p p found)

-- the whole text from its three parts
pub whole_text : (image : ProgramImage) (start : ℕ) (none headed filled all : List ℕ) → start ≡ image.start → none ≡ []
    → headed ≡ none ++ (header_line ++ line_end)
    → filled ≡ headed ++ text_of_lines (flat_map part_lines (parts image))
    → all ≡ filled ++ (last_line start ++ line_end)
    → all ≡ srec_text image
unfolding srec_text
whole_text image start none headed filled all start_is none_is headed_is filled_is all_is =
    let head : List ℕ = header_line ++ line_end in
    let body : List ℕ = text_of_lines (flat_map part_lines (parts image)) in
    let end : List ℕ = last_line image.start ++ line_end in
    all_is
    ∙ ap (λ (s : ℕ). filled ++ (last_line s ++ line_end)) start_is
    ∙ ap (λ (xs : List ℕ). xs ++ end) (filled_is ∙ ap (λ (xs : List ℕ). xs ++ body) (headed_is ∙ ap (λ (xs : List ℕ). xs ++ head) none_is))
    ∙ append_assoc head body end
    ∙ ap (λ (xs : List ℕ). head ++ (body ++ xs)) (sym (append-nil end))
    ∙ ap (λ (xs : List ℕ). head ++ xs) (sym (flat_map-append (λ line. line ++ line_end) (flat_map part_lines (parts image)) (last_line image.start ∷ [])))
