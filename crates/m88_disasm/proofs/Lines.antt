-- Lines appended one by one are the lines of all.
use Rattle.std.proofs.Common.{◌≡◌, ℕ, ◌+◌, ◌<◌, ◌≤◌, List, [], ◌∷◌, ◌++◌, length, take, drop, get_or, sym, ap, subst, ◌∙◌, append_assoc, append-nil, arith}
use Rattle.std.specs.Prelude.{Some, slice_get}
use Rattle.std.specs.Int.{from_be_bytes, w32}
use Rattle.std.proofs.lemmas.List.{at_drop_more, drop-drop, drop_all}
use Rattle.std.proofs.lemmas.Option.{get_or_from_slice_get, slice_get_within}
use Rattle.std.proofs.lemmas.List.Concat.{flat_map-append}
use Rattle.m88_base.proofs.Laws.{line_before, retold}
use Rattle.m88_base.specs.Appended.{AreAppended}
use Rattle.m88_base.specs.Lines.{line_end, text_of_lines}
use Rattle.m88_base.specs.Placed.{Placed}
use Rattle.m88_isa.specs.Word.{IsWord}
use Rattle.m88_isa.specs.declared.instr.Instr.{Instr}
use Rattle.m88_disasm.specs.Text.{instr_text, word_text}
use Rattle.m88_disasm.specs.Listing.{AreLinesFrom, ArePartLines, BeginsWord, IsWordLine, lone_byte_line, place_line}
use Rattle.m88_disasm.specs.Listing.IsWordLine.{instruction, no_instruction}
use Rattle.m88_disasm.specs.Listing.AreLinesFrom.{no_line, word, byte}
use Rattle.m88_disasm.specs.Listing.ArePartLines.{no_part, part}
use Rattle.m88_disasm.specs.Inside.Appended.{BytesAppended, LineAppended}

-- the line of a word that an instruction has
pub said_instruction : (i : Instr) (w : ℕ) (old new : List ℕ) → IsWord i w → new ≡ old ++ (instr_text i ++ line_end)
    → LineAppended (IsWordLine w) old new
said_instruction i w old new is text_is = record { line = instr_text i; is = instruction i is; text_is = text_is }

-- the line of a word that no instruction has
pub said_word : (w : ℕ) (old new : List ℕ) → ((i : Instr) → IsWord i w → ⊥) → new ≡ old ++ (word_text w ++ line_end)
    → LineAppended (IsWordLine w) old new
said_word w old new none text_is = record { line = word_text w; is = no_instruction none; text_is = text_is }

-- the line of the word that begins the bytes
pub word_first : (at w : ℕ) (bytes old new : List ℕ) → BeginsWord at bytes → w ≡ from_be_bytes w32 (take 4 bytes)
    → LineAppended (IsWordLine w) old new → BytesAppended at bytes old new 4
word_first at w [] old new begins e l = absurd (omega (arith, begins.1))
word_first at w (a ∷ []) old new begins e l = absurd (omega (arith, begins.1))
word_first at w (a ∷ b ∷ []) old new begins e l = absurd (omega (arith, begins.1))
word_first at w (a ∷ b ∷ c ∷ []) old new begins e l = absurd (omega (arith, begins.1))
word_first at w (a ∷ b ∷ c ∷ d ∷ bytes) old new begins e l =
    λ lines are. record {
      lines = l.line ∷ lines;
      are = word begins (subst (λ (v : ℕ). IsWordLine v l.line) e l.is) are;
      text_is = line_before old new l.line lines l.text_is;
    }

-- the line of the first byte
pub byte_first : (at : ℕ) (bytes old new : List ℕ) → 0 < length bytes → (BeginsWord at bytes → ⊥)
    → new ≡ old ++ (lone_byte_line (get_or bytes 0 0) ++ line_end) → BytesAppended at bytes old new 1
byte_first at [] old new some none e = absurd (omega arith)
byte_first at (b ∷ bytes) old new some none e =
    λ lines are. record {
      lines = lone_byte_line b ∷ lines;
      are = byte none are;
      text_is = line_before old new (lone_byte_line b) lines e;
    }

-- more lines behind those of the first m bytes
pub more_bytes : (at m n : ℕ) (bytes rest t0 t1 t2 : List ℕ) → rest ≡ drop m bytes → BytesAppended at bytes t0 t1 m
    → BytesAppended (at + m) rest t1 t2 n → BytesAppended at bytes t0 t2 (m + n)
more_bytes at m n bytes rest t0 t1 t2 rest_is first second =
    λ lines are.
    let sum : at + (m + n) ≡ at + m + n = omega arith in
    let left : drop (m + n) bytes ≡ drop n rest = sym (drop-drop n m bytes) ∙ ap (drop n) (sym rest_is) in
    let are_left : AreLinesFrom (at + m + n) (drop n rest) lines =
    subst (λ (xs : List ℕ). AreLinesFrom (at + m + n) xs lines) left
    (subst (λ (k : ℕ). AreLinesFrom k (drop (m + n) bytes) lines) sum are) in
    let next : AreAppended (AreLinesFrom (at + m) rest) t1 (t2 ++ text_of_lines lines) = second lines are_left in
    let whole : AreAppended (AreLinesFrom at bytes) t0 (t1 ++ text_of_lines next.lines) =
    first next.lines (subst (λ (xs : List ℕ). AreLinesFrom (at + m) xs next.lines) rest_is next.are) in
    retold (AreLinesFrom at bytes) t0 (t1 ++ text_of_lines next.lines) (t2 ++ text_of_lines lines) next.text_is whole

-- all lines are there
pub all_bytes : (at n : ℕ) (bytes old new : List ℕ) → length bytes ≤ n → BytesAppended at bytes old new n
    → AreAppended (AreLinesFrom at bytes) old new
all_bytes at n bytes old new past so_far =
    let none_left : AreLinesFrom (at + n) (drop n bytes) [] =
    subst (λ (xs : List ℕ). AreLinesFrom (at + n) xs []) (sym (drop_all n bytes past)) no_line in
    retold (AreLinesFrom at bytes) old (new ++ []) new (sym (append-nil new)) (so_far [] none_left)

-- the lines of the first n parts
abbrev pub PartsAppended : List Placed → List ℕ → List ℕ → ℕ → Type 0
PartsAppended runs old new n =
    (lines : List (List ℕ)) → ArePartLines (drop n runs) lines
    → AreAppended (ArePartLines runs) old (new ++ text_of_lines lines)

-- what is left begins with the part of that index
part_next : (runs : List Placed) (k : ℕ) (run : Placed) → slice_get runs k ≡ Some run
    → drop k runs ≡ run ∷ drop (k + 1) runs
part_next runs k run found =
    at_drop_more (λ (rs : List Placed). rs) runs k run (slice_get_within runs k run found)
    ∙ ap (λ (r : Placed). let rs : List Placed = r ∷ drop (k + 1) runs in rs)
    (get_or_from_slice_get runs k run run found)

-- the text of a part and of what stands behind it
part_text : (t1 t2 t3 place : List ℕ) (lines more : List (List ℕ)) → t2 ≡ t1 ++ (place ++ line_end)
    → t3 ≡ t2 ++ text_of_lines lines
    → t3 ++ text_of_lines more ≡ t1 ++ text_of_lines (place ∷ (lines ++ more))
part_text t1 t2 t3 place lines more e f =
    ap (λ (xs : List ℕ). xs ++ text_of_lines more) f
    ∙ append_assoc t2 (text_of_lines lines) (text_of_lines more)
    ∙ ap (λ (xs : List ℕ). t2 ++ xs) (sym (flat_map-append (λ line. line ++ line_end) lines more))
    ∙ line_before t1 t2 place (lines ++ more) e

-- one part more
pub more_parts : (runs : List Placed) (k : ℕ) (run : Placed) (t0 t1 t2 t3 : List ℕ) → slice_get runs k ≡ Some run
    → PartsAppended runs t0 t1 k → t2 ≡ t1 ++ (place_line run.at ++ line_end)
    → AreAppended (AreLinesFrom run.at run.bytes) t2 t3 → PartsAppended runs t0 t3 (k + 1)
more_parts runs k run t0 t1 t2 t3 found before place l =
    λ more are.
    let all : List (List ℕ) = place_line run.at ∷ (l.lines ++ more) in
    let are_all : ArePartLines (drop k runs) all =
    subst (λ (rs : List Placed). ArePartLines rs all) (sym (part_next runs k run found)) (part l.are are) in
    retold (ArePartLines runs) t0 (t1 ++ text_of_lines all) (t3 ++ text_of_lines more)
    (part_text t1 t2 t3 (place_line run.at) l.lines more place l.text_is) (before all are_all)

-- all parts are there
pub all_parts : (runs : List Placed) (n : ℕ) (old new : List ℕ) → length runs ≤ n → PartsAppended runs old new n
    → AreAppended (ArePartLines runs) old new
all_parts runs n old new past so_far =
    let none_left : ArePartLines (drop n runs) [] =
    subst (λ (rs : List Placed). ArePartLines rs []) (sym (drop_all n runs past)) no_part in
    retold (ArePartLines runs) old (new ++ []) new (sym (append-nil new)) (so_far [] none_left)
