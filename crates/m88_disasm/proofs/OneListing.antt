-- An image has one listing.
use Rattle.std.proofs.Common.{◌≡◌, ℕ, List, [], ◌∷◌, sym, refl, ap, ◌∙◌}
use Rattle.m88_base.specs.Lines.{text_of_lines}
use Rattle.m88_base.specs.Image.{ProgramImage, parts}
use Rattle.m88_base.specs.Placed.{Placed}
use Rattle.m88_codec.proofs.Laws.{one_reading}
use Rattle.m88_disasm.specs.Text.{instr_text}
use Rattle.m88_disasm.specs.Listing.{AreLinesFrom, ArePartLines, IsImageListing, IsWordLine, start_line}
use Rattle.m88_disasm.specs.Listing.IsWordLine.{instruction, no_instruction}
use Rattle.m88_disasm.specs.Listing.AreLinesFrom.{no_line, word, byte}
use Rattle.m88_disasm.specs.Listing.ArePartLines.{no_part, part}

one_word_line : (w : ℕ) (l m : List ℕ) → IsWordLine w l → IsWordLine w m → l ≡ m
one_word_line w _ _ (instruction i is) (instruction j is2) = ap instr_text (one_reading w i j is is2)
one_word_line w _ _ (instruction i is) (no_instruction none) = absurd (none i is)
one_word_line w _ _ (no_instruction none) (instruction j is2) = absurd (none j is2)
one_word_line w _ _ (no_instruction none) (no_instruction none2) = refl

pub one_more : (l m : List ℕ) (ls ms : List (List ℕ)) → l ≡ m → ls ≡ ms → l ∷ ls ≡ m ∷ ms
one_more l m ls ms e f = cc

one_lines : (at : ℕ) (bytes : List ℕ) (ls ms : List (List ℕ)) → AreLinesFrom at bytes ls → AreLinesFrom at bytes ms → ls ≡ ms
one_lines at [] _ _ no_line no_line = refl
one_lines at _ _ _ (word begins line rest) (word begins2 line2 rest2) =
    one_more _ _ _ _ (one_word_line _ _ _ line line2) (one_lines _ _ _ _ rest rest2)
one_lines at _ _ _ (word begins line rest) (byte none rest2) = absurd (none begins)
one_lines at _ _ _ (byte none rest) (word begins line rest2) = absurd (none begins)
one_lines at _ _ _ (byte none rest) (byte none2 rest2) = one_more _ _ _ _ refl (one_lines _ _ _ _ rest rest2)

one_part_lines : (runs : List Placed) (ls ms : List (List ℕ)) → ArePartLines runs ls → ArePartLines runs ms → ls ≡ ms
one_part_lines [] _ _ no_part no_part = refl
one_part_lines (run ∷ runs) _ _ (part lines rest) (part lines2 rest2) =
    let e = one_lines run.at run.bytes _ _ lines lines2 in
    let f = one_part_lines runs _ _ rest rest2 in
    cc

pub one_listing : (image : ProgramImage) (t u : List ℕ) → IsImageListing image t → IsImageListing image u → t ≡ u
one_listing image t u a b =
    let e = one_part_lines (parts image) a.lines b.lines a.are_lines b.are_lines in
    a.text_is ∙ ap (λ (ls : List (List ℕ)). text_of_lines (start_line image.start ∷ ls)) e ∙ sym b.text_is
