-- The pieces of an image, and the lines of words, stretches and pieces before the others.
use Rattle.std.proofs.Common.{◌≡◌, ℕ, zero, suc, ◌+◌, ◌*◌, ◌-◌, ◌/◌, ◌%◌, ◌<◌, Bool, inl, inr, List, [], ◌∷◌, ◌++◌, length, take, drop, refl, ap, subst, sym, ◌∙◌, arith}
use Rattle.std.specs.Prelude.{◌↔◌, None}
use Rattle.std.proofs.lemmas.List.{length-take-le}
use Rattle.m88_base.specs.Appended.{AreAppended}
use Rattle.m88_base.specs.Found.{IsPart}
use Rattle.m88_base.specs.Image.{ProgramImage, byte_at}
use Rattle.m88_base.specs.Lines.{line_end}
use Rattle.m88_base.proofs.Laws.{line_before}
use Rattle.m88_isa.specs.Address.{word_address}
use Rattle.m88_isa.specs.declared.instr.Instr.{Instr}
use Rattle.m88_disasm.specs.Listing.{place_line}
use Rattle.m88_sourcing.specs.Code.{HasInstruction, InCode, IsCode, IsReached, HoldsInstruction}
use Rattle.m88_sourcing.specs.Code.IsCode.{reached, in_slot}
use Rattle.m88_sourcing.specs.Code.IsReached.{begins, leads}
use Rattle.m88_sourcing.specs.Data.{AreDataLines}
use Rattle.m88_sourcing.specs.Inside.Appended.{FrontAppended}
use Rattle.m88_sourcing.specs.Inside.Members.{among_words}
use Rattle.m88_sourcing.specs.Labels.{HasLabel, code_text}
use Rattle.m88_sourcing.specs.Said.{Said, Stays}
use Rattle.m88_sourcing.specs.Source.{AreCodeLines, AreLooseLines, ArePieceLines, IsCutPiece, IsLabelled, IsPiece, IsStartMarked, IsStretch, LineWhere}
use Rattle.m88_sourcing.specs.Source.LineWhere.{so, not_so}
use Rattle.m88_sourcing.specs.Source.AreCodeLines.{no_word, word}
use Rattle.m88_sourcing.specs.Source.AreLooseLines.{stretch}
use Rattle.m88_sourcing.specs.Source.ArePieceLines.{code, loose}
use Rattle.m88_sourcing.proofs.OneInstruction.{no_byte_within}
use Rattle.m88_sourcing.proofs.Appending.{front_all, lines_before}

-- the bytes of a word are code together
pub same_word : (words : ℕ → Bool) (a b : ℕ) → a / 4 ≡ b / 4 → among_words words a ≡ among_words words b
same_word words a b e = ap (λ (q : ℕ). words (q * 4)) e

-- an instruction stands where code is
reached_stands : (image : ProgramImage) (seeds : List ℕ) (a : ℕ) → IsReached image seeds a → HasInstruction image a
reached_stands image seeds a (begins seed stands) = stands
reached_stands image seeds a (leads from led) = led.4

pub code_stands : (image : ProgramImage) (said : Said) (a : ℕ) → IsCode image said a → HasInstruction image a
code_stands image said a (reached r) = reached_stands image _ a r
code_stands image said a (in_slot b r is_slot) = is_slot.3

-- where no byte is no code is
pub no_code_there : (image : ProgramImage) (said : Said) (a : ℕ) → byte_at image a ≡ None
    → ¬ InCode image said a
no_code_there image said a none is =
    no_byte_within image (word_address a) (a - word_address a) (code_stands image said (word_address a) is)
    (omega arith) (ap (byte_at image) (let e : word_address a + (a - word_address a) ≡ a = omega arith in e) ∙ none)

-- where a part begins within a word no instruction stands
pub part_whole : (image : ProgramImage) (at : ℕ) (bytes : List ℕ) → IsPart (byte_at image) at bytes
    → HasInstruction image (word_address at) → at % 4 ≡ 0
part_whole image at bytes part h = by (at % 4) refl
  where
    by : (r : ℕ) → at % 4 ≡ r → at % 4 ≡ 0
    by zero e = e
    by (suc r) e =
        let before : at - 1 + 1 ≡ at = omega (arith, e) in
        let here : word_address at + r ≡ at - 1 = omega (arith, e) in
        absurd (no_byte_within image (word_address at) r h (omega (arith, e))
        (ap (byte_at image) here ∙ part.below (at - 1) before))

-- where what is left of a part ends within a word, that is no code
pub piece_whole : (image : ProgramImage) (at n : ℕ) → at % 4 ≡ 0 → ((k : ℕ) → k < n → HasInstruction image (word_address (at + k)))
    → byte_at image (at + n) ≡ None → n % 4 ≡ 0
piece_whole image at n whole stand none = by (n % 4) refl
  where
    by : (r : ℕ) → n % 4 ≡ r → n % 4 ≡ 0
    by zero e = e
    by (suc r) e =
        let last : word_address (at + (n - 1)) + suc r ≡ at + n = omega (arith, e, whole) in
        absurd (no_byte_within image (word_address (at + (n - 1))) (suc r) (stand (n - 1) (omega (arith, e)))
        (omega (arith, e)) (ap (byte_at image) last ∙ none))

-- a line where something holds that is the same
pub line_where : (P Q : Type 0) (line : List ℕ) (lines : List (List ℕ)) → P ↔ Q → LineWhere P line lines → LineWhere Q line lines
line_where P Q line _ same (so p) = so (same.0 p)
line_where P Q line _ same (not_so p) = not_so (λ q. p (same.1 q))

pub lines_where : (P Q : Type 0) (line old new : List ℕ) → P ↔ Q → AreAppended (LineWhere P line) old new
    → AreAppended (LineWhere Q line) old new
lines_where P Q line old new same l = record {
  lines = l.lines;
  are = line_where P Q line l.lines same l.are;
  text_is = l.text_is;
}

-- the lines of a word of code, before those of the others
pub word_front : (image : ProgramImage) (said : Said) (at n : ℕ) (i : Instr) (t0 t1 t2 t3 : List ℕ)
    → HoldsInstruction image at i → AreAppended (IsLabelled image said at) t0 t1
    → AreAppended (IsStartMarked image at) t1 t2 → t3 ≡ t2 ++ (code_text at i ++ line_end)
    → FrontAppended (AreCodeLines (λ _. []) image said at (suc n)) (AreCodeLines (λ _. []) image said (at + 4) n) t0 t3
word_front image said at n i t0 t1 t2 t3 stands label start text_is =
    λ lines are. record {
      lines = label.lines ++ (start.lines ++ code_text at i ∷ lines);
      are = word i stands label.are start.are are;
      text_is =
          line_before t2 t3 (code_text at i) lines text_is
          ∙ lines_before t1 t2 start.lines (code_text at i ∷ lines) start.text_is
          ∙ lines_before t0 t1 label.lines (start.lines ++ code_text at i ∷ lines) label.text_is;
    }

-- one word of code more
pub next_word : (image : ProgramImage) (said : Said) (at index words here : ℕ) (t1 t2 : List ℕ) → index < words
    → here ≡ at + 4 * index
    → ((n : ℕ) → FrontAppended (AreCodeLines (λ _. []) image said here (suc n))
    (AreCodeLines (λ _. []) image said (here + 4) n) t1 t2)
    → FrontAppended (AreCodeLines (λ _. []) image said (at + 4 * index) (words - index))
    (AreCodeLines (λ _. []) image said (at + 4 * (index + 1)) (words - (index + 1))) t1 t2
next_word image said at index words here t1 t2 low here_is front =
    let Are : ℕ → ℕ → List (List ℕ) → Type 0 = AreCodeLines (λ _. []) image said in
    let n : ℕ = words - (index + 1) in
    let left : suc n ≡ words - index = omega (arith, low) in
    let next : here + 4 ≡ at + 4 * (index + 1) = omega (arith, here_is) in
    subst (λ (m : ℕ). FrontAppended (Are (at + 4 * index) m) (Are (at + 4 * (index + 1)) n) t1 t2) left
    (subst (λ (a : ℕ). FrontAppended (Are (at + 4 * index) (suc n)) (Are a n) t1 t2) next
    (subst (λ (a : ℕ). FrontAppended (Are a (suc n)) (Are (here + 4) n) t1 t2) here_is (front n)))

-- all words of code
pub all_code : (image : ProgramImage) (said : Said) (at index words : ℕ) (t0 t1 : List ℕ) → words ≡ index
    → FrontAppended (AreCodeLines (λ _. []) image said at words)
    (AreCodeLines (λ _. []) image said (at + 4 * index) (words - index)) t0 t1
    → AreAppended (AreCodeLines (λ _. []) image said at words) t0 t1
all_code image said at index words t0 t1 all front =
    let none : 0 ≡ words - index = omega (arith, all) in
    front_all _ _ t0 t1 front
    (subst (λ (m : ℕ). AreCodeLines (λ _. []) image said (at + 4 * index) m []) none no_word)

-- the lines of a stretch, before those of the others
pub stretch_front : (image : ProgramImage) (said : Said) (at n : ℕ) (bytes t0 t1 t2 : List ℕ)
    → IsStretch (HasLabel image said) at bytes n → AreAppended (IsLabelled image said at) t0 t1
    → AreAppended (AreDataLines at (take n bytes)) t1 t2
    → FrontAppended (AreLooseLines image said at bytes) (AreLooseLines image said (at + n) (drop n bytes)) t0 t2
stretch_front image said at n bytes t0 t1 t2 is label own =
    λ lines are. record {
      lines = label.lines ++ (own.lines ++ lines);
      are = stretch n is label.are own.are are;
      text_is =
          lines_before t1 t2 own.lines lines own.text_is
          ∙ lines_before t0 t1 label.lines (own.lines ++ lines) label.text_is;
    }

-- the lines of a piece of code, before those of the others
pub code_front : (image : ProgramImage) (said : Said) (at n : ℕ) (bytes t0 t1 t2 : List ℕ)
    → IsCutPiece (InCode image said) (Stays said) at bytes (4 * n) → t1 ≡ t0 ++ (place_line at ++ line_end)
    → AreAppended (AreCodeLines (λ _. []) image said at n) t1 t2
    → FrontAppended (ArePieceLines (λ _. []) image said at bytes)
    (ArePieceLines (λ _. []) image said (at + 4 * n) (drop (4 * n) bytes)) t0 t2
code_front image said at n bytes t0 t1 t2 is place own =
    λ lines are. record {
      lines = place_line at ∷ own.lines ++ lines;
      are = code n is own.are are;
      text_is =
          lines_before t1 t2 own.lines lines own.text_is ∙ line_before t0 t1 (place_line at) (own.lines ++ lines) place;
    }

-- the lines of a piece that is no code, before those of the others
pub loose_front : (image : ProgramImage) (said : Said) (at n : ℕ) (bytes t0 t1 t2 : List ℕ)
    → IsPiece (λ a. ¬ InCode image said a) at bytes n → t1 ≡ t0 ++ (place_line at ++ line_end)
    → AreAppended (AreLooseLines image said at (take n bytes)) t1 t2
    → FrontAppended (ArePieceLines (λ _. []) image said at bytes)
    (ArePieceLines (λ _. []) image said (at + n) (drop n bytes)) t0 t2
loose_front image said at n bytes t0 t1 t2 is place own =
    λ lines are. record {
      lines = place_line at ∷ own.lines ++ lines;
      are = loose n is own.are are;
      text_is =
          lines_before t1 t2 own.lines lines own.text_is ∙ line_before t0 t1 (place_line at) (own.lines ++ lines) place;
    }

-- the same piece of a kind that is the same
pub piece_of : (K L : ℕ → Type 0) (at : ℕ) (bytes : List ℕ) (n : ℕ) → ((a : ℕ) → K a ↔ L a) → IsPiece K at bytes n
    → IsPiece L at bytes n
piece_of K L at bytes n same p = record {
  some = p.some;
  within = p.within;
  even = λ k low. (same (at + k)).0 (p.even k low);
  longest = elim p.longest [
    | inl all ↦ inl all
    | inr other ↦ inr (λ l. other ((same (at + n)).1 l))
  ];
}

pub stretch_of : (K L : ℕ → Type 0) (at : ℕ) (bytes : List ℕ) (n : ℕ) → ((a : ℕ) → K a ↔ L a) → IsStretch K at bytes n
    → IsStretch L at bytes n
stretch_of K L at bytes n same p = record {
  some = p.some;
  within = p.within;
  plain = λ k some low l. p.plain k some low ((same (at + k)).1 l);
  longest = elim p.longest [
    | inl all ↦ inl all
    | inr labelled ↦ inr ((same (at + n)).0 labelled)
  ];
}

-- a piece up to the first place behind its first byte
pub cut_piece : (K S : ℕ → Type 0) (at : ℕ) (bytes : List ℕ) (m n : ℕ) → IsPiece K at bytes m
    → IsStretch S at (take m bytes) n → IsCutPiece K S at bytes n
cut_piece K S at bytes m n p s =
    let within = p.within in
    let inside = s.within in
    let size : length (take m bytes) ≡ m = length-take-le m bytes within in
    record {
      some = s.some;
      within = omega (arith, within, inside, size);
      even = λ k low. p.even k (omega (arith, low, inside, size));
      plain = s.plain;
      longest = elim s.longest [
        | inl all ↦
            let same : n ≡ m = all ∙ size in
            elim p.longest [
              | inl whole ↦ inl (same ∙ whole)
              | inr other ↦ inr (inl (subst (λ (j : ℕ). ¬ K (at + j)) (sym same) other))
            ]
        | inr place ↦ inr (inr place)
      ];
    }
