-- Zeros, texts and words are read as such statements.
use Rattle.std.proofs.Common.{◌≡◌, ℕ, ◌+◌, ◌<◌, ◌^◌, Bool, true, false, ◌==◌, ◌&&◌, ◌||◌, nat_le, List, [], ◌∷◌, ◌++◌, length, refl, sym, ap, subst, ◌∙◌, arith, codes, decimal, append-nil, eqb-true, eq-eqb, true≢false}
use Rattle.std.specs.Prelude.{flat_map, if◌then◌else◌, map}
use Rattle.std.specs.List.{AllByRecursion}
use Rattle.std.proofs.lemmas.Bool.Decides.{nat_tests}
use Rattle.std.proofs.lemmas.List.Folds.{list_all-append}
use Rattle.m88_base.specs.Hex.{hex8}
use Rattle.m88_base.specs.declared.fixup.Kind.TheVariants.{Abs32}
use Rattle.m88_parse.specs.Language.Bytes.{double_quote, is_plain}
use Rattle.m88_parse.specs.Language.Operands.{IsValue}
use Rattle.m88_parse.specs.Language.Pieces.{Piece, a_text}
use Rattle.m88_parse.specs.Language.Statements.{AreParted, ascii, more, one, unlabelled, word, zeros}
use Rattle.m88_parse.specs.Language.Tokens.{Holds, escape, itself, nothing}
use Rattle.m88_parse.specs.declared.unit.Body.TheVariants as body
use Rattle.m88_parse.specs.declared.unit.Value.TheVariants.{Number}
use Rattle.m88_disasm.specs.Text.{hexadecimal, spelled}
use Rattle.m88_disasm.proofs.Laws.{AreGood, Part, Spoken, are_parted, are_printed, comma, comma_good, is_printed, part_hex, part_name, part_number, part_text, parts_text, piece_of, pieces, says_body, word_name, word_part_good}
use Rattle.m88_sourcing.specs.Data.{in_text, text_line, zeros_line}

pub said_zeros : (number n : ℕ) → n < 2 ^ 32 → Spoken number (zeros_line n) (body.Zero n)
said_zeros number n small =
    subst (λ (l : List ℕ). Spoken number l (body.Zero n))
    (ap (λ (xs : List ℕ). codes ".zero " ++ xs) (append-nil (decimal n)))
    (says_body (codes ".zero") (part_number n) [] number (body.Zero n) refl (small, tt) refl refl
    (zeros refl refl small))

-- a byte that a text can have: one that is printed, 0 or a line feed
abbrev pub can_stand : ℕ → Bool
can_stand b = (b == 10) || ((b == 0) || (nat_le 32 b && nat_le b 126))

plain_byte : (b : ℕ) → can_stand b ≡ true → (b == 10) ≡ false → (b == 0) ≡ false → is_plain b ≡ true
plain_byte b can e1 e2 = grind (arith, nat_tests)

-- one byte more in front of a text
in_front : (b : ℕ) (inside bytes : List ℕ) → can_stand b ≡ true → Holds double_quote inside bytes
    → Holds double_quote (in_text b ++ inside) (b ∷ bytes)
in_front b inside bytes can h = by1 (b == 10) refl
  where
    by4 : (t : Bool) → (b == 10) ≡ false → (b == 0) ≡ false → (b == 34) ≡ false → (b == 92) ≡ t
        → Holds double_quote ((if t then 92 ∷ 92 ∷ [] else b ∷ []) ++ inside) (b ∷ bytes)
    by4 true e1 e2 e3 e = subst (λ (m : ℕ). Holds double_quote (92 ∷ 92 ∷ inside) (m ∷ bytes))
        (sym (eqb-true b 92 e)) (escape refl h)
    by4 false e1 e2 e3 e =
        let stands : is_plain b ≡ true = plain_byte b can e1 e2 in
        itself stands (λ is. true≢false (sym (eq-eqb b 92 is) ∙ e)) (λ is. true≢false (sym (eq-eqb b 34 is) ∙ e3)) h

    by3 : (t : Bool) → (b == 10) ≡ false → (b == 0) ≡ false → (b == 34) ≡ t
        → Holds double_quote ((if t then 92 ∷ 34 ∷ [] else (if b == 92 then 92 ∷ 92 ∷ [] else b ∷ [])) ++ inside) (b ∷ bytes)
    by3 true e1 e2 e = subst (λ (m : ℕ). Holds double_quote (92 ∷ 34 ∷ inside) (m ∷ bytes))
        (sym (eqb-true b 34 e)) (escape refl h)
    by3 false e1 e2 e = by4 (b == 92) e1 e2 e refl

    by2 : (t : Bool) → (b == 10) ≡ false → (b == 0) ≡ t
        → Holds double_quote ((if t then 92 ∷ 48 ∷ [] else (if b == 34 then 92 ∷ 34 ∷ [] else (if b == 92 then 92 ∷ 92 ∷ [] else b ∷ []))) ++ inside) (b ∷ bytes)
    by2 true e1 e = subst (λ (m : ℕ). Holds double_quote (92 ∷ 48 ∷ inside) (m ∷ bytes))
        (sym (eqb-true b 0 e)) (escape refl h)
    by2 false e1 e = by3 (b == 34) e1 e refl

    by1 : (t : Bool) → (b == 10) ≡ t
        → Holds double_quote ((if t then 92 ∷ 110 ∷ [] else (if b == 0 then 92 ∷ 48 ∷ [] else (if b == 34 then 92 ∷ 34 ∷ [] else (if b == 92 then 92 ∷ 92 ∷ [] else b ∷ [])))) ++ inside) (b ∷ bytes)
    by1 true e = subst (λ (m : ℕ). Holds double_quote (92 ∷ 110 ∷ inside) (m ∷ bytes))
        (sym (eqb-true b 10 e)) (escape refl h)
    by1 false e = by2 (b == 0) e refl

abbrev pub AllStand : List ℕ → Type 0
AllStand bytes = AllByRecursion (λ b. can_stand b ≡ true) bytes

text_holds : (bytes : List ℕ) → AllStand bytes → Holds double_quote (flat_map in_text bytes) bytes
text_holds [] can = nothing
text_holds (b ∷ bytes) can = in_front b (flat_map in_text bytes) bytes can.0 (text_holds bytes can.1)

printed_if : (t : Bool) (xs ys : List ℕ) → (t ≡ true → are_printed xs ≡ true) → (t ≡ false → are_printed ys ≡ true)
    → are_printed (if t then xs else ys) ≡ true
printed_if true xs ys f g = f refl
printed_if false xs ys f g = g refl

byte_printed : (b : ℕ) → can_stand b ≡ true → are_printed (in_text b) ≡ true
byte_printed b can =
    printed_if (b == 10) _ _ (λ e. refl) (λ e1.
    printed_if (b == 0) _ _ (λ e. refl) (λ e2.
    printed_if (b == 34) _ _ (λ e. refl) (λ e3.
    printed_if (b == 92) _ _ (λ e. refl) (λ e4. ap (λ (t : Bool). t && true) (alone b can e1 e2)))))
  where
    alone : (m : ℕ) → can_stand m ≡ true → (m == 10) ≡ false → (m == 0) ≡ false → is_printed m ≡ true
    alone m stands e1 e2 = grind (arith, nat_tests)

bytes_printed : (bytes : List ℕ) → AllStand bytes → are_printed (flat_map in_text bytes) ≡ true
bytes_printed [] can = refl
bytes_printed (b ∷ bytes) can =
    list_all-append is_printed (in_text b) (flat_map in_text bytes)
    ∙ ap (λ (t : Bool). t && are_printed (flat_map in_text bytes)) (byte_printed b can.0) ∙ bytes_printed bytes can.1

text_printed : (bytes : List ℕ) → AllStand bytes → are_printed (text_line bytes) ≡ true
text_printed bytes can =
    list_all-append is_printed (flat_map in_text bytes) (34 ∷ [])
    ∙ ap (λ (t : Bool). t && true) (bytes_printed bytes can)

-- a text in quotes
abbrev quoted : List ℕ → List ℕ
quoted bytes = 34 ∷ flat_map in_text bytes ++ 34 ∷ []

pub said_text : (number : ℕ) (bytes : List ℕ) → AllStand bytes → Spoken number (text_line bytes) (body.Ascii bytes)
said_text number bytes can =
    let p : Piece = record { text = quoted bytes; col = 8; says = a_text bytes } in
    record {
      read = record {
        tokens = piece_of 1 (part_name (codes ".ascii")) ∷ p ∷ [];
        are_tokens = (
          32 ∷ quoted bytes,
          record {
            gap = [];
            bytes_are = refl;
            blank = refl;
            place = refl;
            token = (refl, word_name (codes ".ascii") refl);
            longest = λ h. refl;
          },
          (
            [],
            record {
              gap = 32 ∷ [];
              bytes_are = ap (λ (xs : List ℕ). let ys : List ℕ = 32 ∷ xs in ys) (sym (append-nil (quoted bytes)));
              blank = refl;
              place = refl;
              token = record { inside = flat_map in_text bytes; text_is = refl; holds = text_holds bytes can };
              longest = λ h. tt;
            },
            record { gap = []; tail = []; bytes_are = refl; blank = refl; comment = tt },
          ),
        );
        statement = unlabelled (ascii refl refl) (λ h. cc);
      };
      printed = text_printed bytes can;
    }

-- words
abbrev pub AreWords : List ℕ → Type 0
AreWords ws = AllByRecursion (λ w. w < 2 ^ 32) ws

-- a word behind a comma
abbrev more_parts_of : List ℕ → List Part
more_parts_of [] = []
more_parts_of (w ∷ ws) = comma ∷ part_hex (hex8 w) w ∷ more_parts_of ws

more_good : (ws : List ℕ) → AreWords ws → AreGood (more_parts_of ws)
more_good [] h = tt
more_good (w ∷ ws) h = (comma_good, (word_part_good w h.0, more_good ws h.1))

more_parted : (w : ℕ) (ws : List ℕ) → are_parted (part_hex (hex8 w) w ∷ more_parts_of ws) ≡ true
more_parted w [] = refl
more_parted w (v ∷ ws) = more_parted v ws

more_text : (ws : List ℕ)
    → flat_map (λ operand. codes "," ++ operand) (map hexadecimal ws) ≡ parts_text (more_parts_of ws)
more_text [] = refl
more_text (w ∷ ws) = ap (λ (xs : List ℕ). 44 ∷ (hexadecimal w ++ xs)) (more_text ws)

parted_words : (col w : ℕ) (ws : List ℕ) → AreWords (w ∷ ws)
    → AreParted (IsValue Abs32) (pieces col (part_hex (hex8 w) w ∷ more_parts_of ws)) (map (λ v. Number v) (w ∷ ws))
parted_words col w [] h = one (refl, h.0)
parted_words col w (v ∷ ws) h =
    let first : IsValue Abs32 (piece_of col (part_hex (hex8 w) w) ∷ []) (Number w) = (refl, h.0) in
    let place : ℕ = col + length (part_text (part_hex (hex8 w) w)) in
    more {front = piece_of col (part_hex (hex8 w) w) ∷ []} (piece_of place comma) refl first refl
    (parted_words (place + length (part_text comma)) v ws h.1)

pub said_words : (number w : ℕ) (ws : List ℕ) → AreWords (w ∷ ws)
    → Spoken number (spelled (codes ".word") (map hexadecimal (w ∷ ws))) (body.Word (map (λ v. Number v) (w ∷ ws)))
said_words number w ws h =
    subst (λ (l : List ℕ). Spoken number l (body.Word (map (λ v. Number v) (w ∷ ws))))
    (ap (λ (xs : List ℕ). codes ".word" ++ (32 ∷ (hexadecimal w ++ xs))) (sym (more_text ws)))
    (says_body (codes ".word") (part_hex (hex8 w) w) (more_parts_of ws) number (body.Word (map (λ v. Number v) (w ∷ ws)))
    refl (word_part_good w h.0, more_good ws h.1) (more_parted w ws) refl (word refl (parted_words _ w ws h)))
