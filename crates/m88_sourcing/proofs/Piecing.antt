-- A piece is code or none, as its first byte is; and parts in turn.
use Rattle.std.proofs.Common.{◌≡◌, ◌⊎◌, ◌∙◌, ℕ, ◌+◌, ◌*◌, ◌/◌, ◌%◌, ◌<◌, ◌≤◌, Bool, true, false, true≢false, IsTrue, inl, inr, List, [], ◌∷◌, ◌++◌, ap, arith, drop, drop-cons, length, refl, slice_get, map, subst, suc, sym, take, zero}
use Rattle.std.specs.Prelude.{◌↔◌, None, Some, slice_index_or}
use Rattle.std.proofs.lemmas.List.{drop_all, length-take-le}
use Rattle.std.proofs.lemmas.Option.{get_or_from_slice_get, slice_get_within}
use Rattle.std.specs.FinSet.{contains}
use Rattle.m88_base.specs.Appended.{AreAppended}
use Rattle.m88_base.specs.Found.{IsPart}
use Rattle.m88_base.specs.Image.{ProgramImage, byte_at}
use Rattle.m88_base.specs.Lines.{line_end}
use Rattle.m88_base.specs.Placed.{Placed}
use Rattle.m88_isa.specs.Address.{word_address}
use Rattle.m88_disasm.specs.Listing.{place_line}
use Rattle.m88_sourcing.specs.Code.{HasInstruction, InCode}
use Rattle.m88_sourcing.specs.Inside.Appended.{FrontAppended}
use Rattle.m88_sourcing.specs.Inside.Members.{AsAt, OutlinesImage, among_words}
use Rattle.m88_sourcing.specs.Said.{Said, Stays}
use Rattle.m88_sourcing.specs.Source.{AreCodeLines, AreLooseLines, AreSourceLines, ArePieceLines, IsCutPiece, IsPiece, IsStretch}
use Rattle.m88_sourcing.specs.Source.AreSourceLines.{no_part, part}
use Rattle.m88_sourcing.specs.declared.outline.Outline.{Outline}
use Rattle.m88_sourcing.proofs.Appending.{front_all, lines_before}
use Rattle.m88_sourcing.proofs.Cutting.{code_front, code_stands, cut_piece, loose_front, part_whole, piece_of, piece_whole, stretch_of}

not_true : (b : Bool) → (b ≡ true → ⊥) → b ≡ false
not_true true none = absurd (none refl)
not_true false none = refl

as_code : (image : ProgramImage) (said : Said) (o : Outline) (at a : ℕ) → OutlinesImage image said o
    → among_words (contains o.code) at ≡ true → AsAt (contains o.code) at a ↔ InCode image said a
as_code image said o at a is first =
    (λ same. (is.code (word_address a)).0 (same ∙ first), λ code. (is.code (word_address a)).1 code ∙ sym first)

as_none : (image : ProgramImage) (said : Said) (o : Outline) (at a : ℕ) → OutlinesImage image said o
    → among_words (contains o.code) at ≡ false → AsAt (contains o.code) at a ↔ (¬ InCode image said a)
as_none image said o at a is first = (
  λ same code. true≢false (sym ((is.code (word_address a)).1 code) ∙ (same ∙ first)),
  λ none.
      not_true (among_words (contains o.code) a) (λ member. none ((is.code (word_address a)).0 member)) ∙ sym first,
)

-- its bytes up to the first word behind its first one that stays where it is
pub code_cut : (image : ProgramImage) (said : Said) (o : Outline) (at m n : ℕ) (bytes : List ℕ)
    → OutlinesImage image said o → among_words (contains o.code) at ≡ true
    → IsPiece (AsAt (contains o.code) at) at bytes m → IsStretch (λ a. IsTrue (contains o.stays a)) at (take m bytes) n
    → IsCutPiece (InCode image said) (Stays said) at bytes n
code_cut image said o at m n bytes is first piece cut =
    cut_piece (InCode image said) (Stays said) at bytes m n
    (piece_of _ _ at bytes m (λ a. as_code image said o at a is first) piece)
    (stretch_of _ _ at (take m bytes) n is.stays cut)

-- words that stay are whole ones
pub stays_whole : (said : Said) (a : ℕ) → Stays said a → a % 4 ≡ 0
stays_whole said a (k, low, is) = subst (λ (n : ℕ). n % 4 ≡ 0) is (by said.fixed k low)
  where
    by : (ys : List ℕ) (j : ℕ) → j < length (map word_address ys) → slice_index_or (map word_address ys) j a % 4 ≡ 0
    by [] j h = absurd (omega (arith, h))
    by (y ∷ ys) zero h = omega arith
    by (y ∷ ys) (suc j) h = by ys j (omega (arith, h))

-- where it ends
pub cut_ends : (image : ProgramImage) (said : Said) (o : Outline) (at m n : ℕ) (bytes : List ℕ)
    → OutlinesImage image said o → m ≤ length bytes → (m ≡ length bytes) ⊎ ((at + m) % 4 ≡ 0)
    → IsStretch (λ a. IsTrue (contains o.stays a)) at (take m bytes) n
    → (n ≡ length bytes) ⊎ ((at + n) % 4 ≡ 0)
cut_ends image said o at m n bytes is within ends cut = elim cut.longest [
  | inl all ↦
      let same : n ≡ m = all ∙ length-take-le m bytes within in
      elim ends [
        | inl whole ↦ inl (same ∙ whole)
        | inr whole ↦ inr (omega (arith, same, whole))
      ]
  | inr place ↦ inr (stays_whole said (at + n) ((is.stays (at + n)).0 place))
]

-- a piece of code is made of whole words, and an instruction stands at each
pub whole_piece : (image : ProgramImage) (said : Said) (at n : ℕ) (bytes : List ℕ) → at % 4 ≡ 0
    → byte_at image (at + length bytes) ≡ None → IsCutPiece (InCode image said) (Stays said) at bytes n
    → (n ≡ length bytes) ⊎ ((at + n) % 4 ≡ 0) → n % 4 ≡ 0
whole_piece image said at n bytes whole end piece (inl all) =
    piece_whole image at n whole (λ k low. code_stands image said (word_address (at + k)) (piece.even k low))
    (subst (λ (m : ℕ). byte_at image (at + m) ≡ None) (sym all) end)
whole_piece image said at n bytes whole end piece (inr ends) = omega (arith, ends, whole)

pub words_stand : (image : ProgramImage) (said : Said) (at n : ℕ) (bytes : List ℕ) → at % 4 ≡ 0
    → IsCutPiece (InCode image said) (Stays said) at bytes n
    → (k : ℕ) → k < n / 4 → HasInstruction image (at + 4 * k)
words_stand image said at n bytes whole piece k low =
    let here : word_address (at + 4 * k) ≡ at + 4 * k = omega (arith, whole) in
    subst (HasInstruction image) here
    (code_stands image said (word_address (at + 4 * k)) (piece.even (4 * k) (omega (arith, low))))

-- its lines, before those of the others
pub code_piece : (image : ProgramImage) (said : Said) (at n : ℕ) (bytes t0 t1 t2 : List ℕ) → n % 4 ≡ 0
    → IsCutPiece (InCode image said) (Stays said) at bytes n → t1 ≡ t0 ++ (place_line at ++ line_end)
    → AreAppended (AreCodeLines (λ _. []) image said at (n / 4)) t1 t2
    → FrontAppended (ArePieceLines (λ _. []) image said at bytes)
    (ArePieceLines (λ _. []) image said (at + n) (drop n bytes)) t0 t2
code_piece image said at n bytes t0 t1 t2 whole piece place own =
    let all : 4 * (n / 4) ≡ n = omega (arith, whole) in
    subst
    (λ (m : ℕ). FrontAppended (ArePieceLines (λ _. []) image said at bytes)
    (ArePieceLines (λ _. []) image said (at + m) (drop m bytes)) t0 t2)
    all
    (code_front image said at (n / 4) bytes t0 t1 t2
    (subst (IsCutPiece (InCode image said) (Stays said) at bytes) (sym all) piece) place own)

pub loose_piece : (image : ProgramImage) (said : Said) (o : Outline) (at n : ℕ) (bytes t0 t1 t2 : List ℕ)
    → OutlinesImage image said o → among_words (contains o.code) at ≡ false
    → IsPiece (AsAt (contains o.code) at) at bytes n → t1 ≡ t0 ++ (place_line at ++ line_end)
    → AreAppended (AreLooseLines image said at (take n bytes)) t1 t2
    → FrontAppended (ArePieceLines (λ _. []) image said at bytes)
    (ArePieceLines (λ _. []) image said (at + n) (drop n bytes)) t0 t2
loose_piece image said o at n bytes t0 t1 t2 is first piece place own =
    loose_front image said at n bytes t0 t1 t2
    (piece_of _ _ at bytes n (λ a. as_none image said o at a is first) piece) place own

-- where the next piece of a part is code, it begins with a word
pub next_whole : (image : ProgramImage) (said : Said) (o : Outline) (at done : ℕ) (bytes : List ℕ)
    → OutlinesImage image said o → IsPart (byte_at image) at bytes → done < length bytes
    → (done ≡ 0) ⊎ ((done ≡ length bytes) ⊎ ((at + done) % 4 ≡ 0))
    → among_words (contains o.code) (at + done) ≡ true → (at + done) % 4 ≡ 0
next_whole image said o at done bytes is is_part low (inl none) code =
    let here : at + done ≡ at = omega (arith, none) in
    let first : at % 4 ≡ 0 =
    part_whole image at bytes is_part
    (subst (λ (a : ℕ). HasInstruction image (word_address a)) here
    (code_stands image said (word_address (at + done)) ((is.code (word_address (at + done))).0 code))) in
    omega (arith, first, none)
next_whole image said o at done bytes is is_part low (inr (inl all)) code = absurd (omega (arith, all, low))
next_whole image said o at done bytes is is_part low (inr (inr whole)) code = whole

-- what is left of a part ends where it does
pub part_end : (image : ProgramImage) (at done : ℕ) (bytes rest : List ℕ) → IsPart (byte_at image) at bytes
    → done < length bytes → length rest + done ≡ length bytes → byte_at image (at + done + length rest) ≡ None
part_end image at done bytes rest is_part low left =
    let here : at + length bytes ≡ at + done + length rest = omega (arith, low, left) in
    subst (λ (a : ℕ). byte_at image a ≡ None) here is_part.above

-- up to where a part was told
pub told_up_to : (at done n len l : ℕ) → done < len → l + done ≡ len → (n ≡ l) ⊎ ((at + done + n) % 4 ≡ 0)
    → (done + n ≡ 0) ⊎ ((done + n ≡ len) ⊎ ((at + (done + n)) % 4 ≡ 0))
told_up_to at done n len l low left (inl all) = inr (inl (omega (arith, low, left, all)))
told_up_to at done n len l low left (inr whole) = inr (inr (omega (arith, whole)))

-- one part more
pub next_part : (image : ProgramImage) (said : Said) (runs : List Placed) (index at : ℕ) (bytes t1 t2 : List ℕ)
    → slice_get runs index ≡ Some (record { at = at; bytes = bytes })
    → AreAppended (ArePieceLines (λ _. []) image said at bytes) t1 t2
    → FrontAppended (AreSourceLines (λ _. []) image said (drop index runs))
    (AreSourceLines (λ _. []) image said (drop (index + 1) runs)) t1 t2
next_part image said runs index at bytes t1 t2 there own =
    let run : Placed = record { at = at; bytes = bytes } in
    let low = slice_get_within runs index run there in
    let one : suc index ≡ index + 1 = omega arith in
    let is : run ∷ drop (index + 1) runs ≡ drop index runs =
    sym (drop-cons runs index run low
    ∙ ap (λ (r : Placed). r ∷ drop (suc index) runs) (get_or_from_slice_get runs index run run there)
    ∙ ap (λ (n : ℕ). run ∷ drop n runs) one) in
    λ others are. record {
      lines = own.lines ++ others;
      are = subst (λ (rs : List Placed). AreSourceLines (λ _. []) image said rs (own.lines ++ others)) is
          (part own.are are);
      text_is = lines_before t1 t2 own.lines others own.text_is;
    }

pub all_parts : (image : ProgramImage) (said : Said) (runs : List Placed) (index : ℕ) (t0 t1 : List ℕ)
    → length runs ≤ index
    → FrontAppended (AreSourceLines (λ _. []) image said runs) (AreSourceLines (λ _. []) image said (drop index runs)) t0 t1
    → AreAppended (AreSourceLines (λ _. []) image said runs) t0 t1
all_parts image said runs index t0 t1 all front =
    front_all _ _ t0 t1 front
    (subst (λ (rs : List Placed). AreSourceLines (λ _. []) image said rs []) (sym (drop_all index runs all)) no_part)
