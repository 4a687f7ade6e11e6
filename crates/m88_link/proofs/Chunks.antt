-- The lines of one piece of bytes more, and of no more bytes.
use Rattle.std.proofs.Common.{◌≡◌, ℕ, ◌<◌, List, [], ◌++◌, length, min, sym, ap, ◌∙◌, append_assoc, append-nil, arith}
use Rattle.std.specs.Prelude.{flat_map}
use Rattle.std.proofs.lemmas.List.{nil_from_length}
use Rattle.m88_base.specs.Pieces.{pieces}
use Rattle.m88_base.proofs.Laws.{next_piece, no_pieces}
use Rattle.m88_link.specs.ObjectText.{byte_line, byte_lines}

-- the line of the bytes that came stands behind the text
pub one_line_more : (front now all line rest bytes : List ℕ) → bytes ≡ line ++ rest → length line ≡ min 32 (length bytes) → 0 < length bytes
    → now ≡ front ++ byte_line line → front ++ byte_lines bytes ≡ all → now ++ byte_lines rest ≡ all
one_line_more front now all line rest bytes parts size some written before =
    ap (λ (l : List ℕ). l ++ byte_lines rest) written
    ∙ append_assoc front (byte_line line) (byte_lines rest)
    ∙ ap (λ (ps : List (List ℕ)). front ++ flat_map byte_line ps) (sym (next_piece 32 (omega arith) bytes line rest parts size some))
    ∙ before

-- where no byte is left all lines stand there
pub all_lines : (now all rest : List ℕ) → length rest ≡ 0 → now ++ byte_lines rest ≡ all → now ≡ all
all_lines now all rest none e =
    let no_piece : pieces 32 rest ≡ [] = ap (pieces 32) (nil_from_length rest none) ∙ no_pieces 32 (omega arith) in
    sym (append-nil now) ∙ ap (λ (ps : List (List ℕ)). now ++ flat_map byte_line ps) (sym no_piece) ∙ e
