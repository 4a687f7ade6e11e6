-- The letters of a text and the text of letters are each other's inverses.
use Rattle.std.specs.Prelude.{ℕ, suc, Bool, true, false, List, [], ◌∷◌, ◌≡◌, ◌≤◌, ◌-◌, ◌==◌, ◌||◌, map, length, if◌then◌else◌}
use Rattle.std.proofs.Common.{refl, sym, ap, ap₂, subst, arith, inl, inr, ◌∙◌}
use Rattle.std.proofs.lemmas.Bool.Decides.{nat_tests}
use Rattle.std.proofs.lemmas.List.Elements.{All-cons, All-head, All-nil, All-tail}
use Rattle.std.proofs.lemmas.Option.{slice_get_past}
use Rattle.m88_event.specs.Letters.{AreLetters, AreLettersIn, HasLetters, IsScheduleOf, in_turn, is_letter, letter_at, letter_byte, letter_of}
use Rattle.m88_event.specs.declared.letter.Letter.{Letter}
use Rattle.m88_event.specs.declared.letter.Letter.TheVariants.{Issue, Answer, Evict}

-- a dash is no letter, each byte that is one is that of a letter, and each letter has one
pub record AreSpelled {L : Type 0} (others : List ℕ) (to_byte : L → ℕ) (to_letter : ℕ → L) : Type 0 where
  pub dash : is_letter others 0x2D ≡ false
  pub there : (byte : ℕ) → is_letter others byte ≡ true → byte ≡ to_byte (to_letter byte)
  pub back : (letter : L) → to_letter (to_byte letter) ≡ letter
  pub has : (letter : L) → is_letter others (to_byte letter) ≡ true

there : {L : Type 0} (others : List ℕ) (to_byte : L → ℕ) (to_letter : ℕ → L) → AreSpelled others to_byte to_letter →
    (bytes : List ℕ) → AreLetters others bytes → bytes ≡ map to_byte (map to_letter bytes)
there others to_byte to_letter are [] h = refl
there others to_byte to_letter are (byte ∷ bytes) h =
    ap₂ (λ x xs. x ∷ xs)
    (are.there byte (All-head (λ b. is_letter others b ≡ true) byte bytes h))
    (there others to_byte to_letter are bytes (All-tail (λ b. is_letter others b ≡ true) byte bytes h))

back : {L : Type 0} (others : List ℕ) (to_byte : L → ℕ) (to_letter : ℕ → L) → AreSpelled others to_byte to_letter →
    (letters : List L) → map to_letter (map to_byte letters) ≡ letters
back others to_byte to_letter are [] = refl
back others to_byte to_letter are (letter ∷ letters) =
    ap₂ (λ x xs. x ∷ xs) (are.back letter) (back others to_byte to_letter are letters)

all_letters : {L : Type 0} (others : List ℕ) (to_byte : L → ℕ) (to_letter : ℕ → L) → AreSpelled others to_byte to_letter →
    (letters : List L) → AreLetters others (map to_byte letters)
all_letters others to_byte to_letter are [] = All-nil (λ b. is_letter others b ≡ true)
all_letters others to_byte to_letter are (letter ∷ letters) =
    All-cons (λ b. is_letter others b ≡ true) (to_byte letter) (map to_byte letters) (are.has letter)
    (all_letters others to_byte to_letter are letters)

same_length : {A B : Type 0} (f : A → B) (xs : List A) → length (map f xs) ≡ length xs
same_length f [] = refl
same_length f (x ∷ xs) = ap suc (same_length f xs)

-- no letters spell a dash
pub dash_is_none : (others : List ℕ) → is_letter others 0x2D ≡ false → HasLetters others (0x2D ∷ []) → ⊥
dash_is_none others dash h =
    let no : false ≡ true = sym dash ∙ All-head (λ b. is_letter others b ≡ true) 0x2D [] h.2 in cc

-- what a text of letters spells
pub spelled : {L : Type 0} (others : List ℕ) (to_byte : L → ℕ) (to_letter : ℕ → L) → AreSpelled others to_byte to_letter →
    (text bytes : List ℕ) → AreLettersIn others text bytes → IsScheduleOf to_byte text (map to_letter bytes)
spelled others to_byte to_letter are text bytes (inl dash) = inl (dash.0, ap (map to_letter) dash.1)
spelled others to_byte to_letter are text bytes (inr in_text) =
    let made = same_length to_letter bytes in
    let long = ap length in_text.0 in
    let some = in_text.1.0 in
    let most = in_text.1.1 in
    inr (
      sym in_text.0 ∙ there others to_byte to_letter are bytes (subst (AreLetters others) (sym in_text.0) in_text.1.2),
      omega (arith, made, long, some),
      omega (arith, made, long, most),
    )

-- letters that a text spells are in it, by their bytes
pub spells : {L : Type 0} (others : List ℕ) (to_byte : L → ℕ) (to_letter : ℕ → L) → AreSpelled others to_byte to_letter →
    (text : List ℕ) (letters : List L) → IsScheduleOf to_byte text letters →
    (bytes : List ℕ) × AreLettersIn others text bytes × (map to_letter bytes ≡ letters)
spells others to_byte to_letter are text letters (inl dash) = ([], inl (dash.0, refl), sym dash.1)
spells others to_byte to_letter are text letters (inr in_text) =
    let kept = same_length to_byte letters in
    let some = in_text.1 in
    let most = in_text.2 in
    let there : HasLetters others text = subst (HasLetters others) (sym in_text.0)
    (omega (arith, kept, some), omega (arith, kept, most), all_letters others to_byte to_letter are letters) in
    (text, inr (refl, there), ap (map to_letter) in_text.0 ∙ back others to_byte to_letter are letters)

-- the letters of one program
byte_there : (byte : ℕ) (i e r : Bool) → (byte == 0x69) ≡ i → (byte == 0x65) ≡ e → (byte == 0x72) ≡ r → (i || (e || r)) ≡ true →
    byte ≡ letter_byte (if i then Issue else if e then Evict else Answer)
byte_there byte true e r is_i is_e is_r h = grind (arith, nat_tests)
byte_there byte false true r is_i is_e is_r h = grind (arith, nat_tests)
byte_there byte false false true is_i is_e is_r h = grind (arith, nat_tests)
byte_there byte false false false is_i is_e is_r h = absurd cc

no_others : (i e r : Bool) → (i || (e || (r || false))) ≡ true → (i || (e || r)) ≡ true
no_others true e r h = refl
no_others false true r h = refl
no_others false false true h = refl
no_others false false false h = h

pub own_there : (byte : ℕ) → is_letter [] byte ≡ true → byte ≡ letter_byte (letter_of byte)
own_there byte h =
    byte_there byte (byte == 0x69) (byte == 0x65) (byte == 0x72) refl refl refl
    (no_others (byte == 0x69) (byte == 0x65) (byte == 0x72) h)

pub own_back : (letter : Letter) → letter_of (letter_byte letter) ≡ letter
own_back Issue = refl
own_back _ = refl

pub own_has : (others : List ℕ) (letter : Letter) → is_letter others (letter_byte letter) ≡ true
own_has others Issue = refl
own_has others _ = refl

pub own_letters : AreSpelled [] letter_byte letter_of
own_letters = record { dash = refl; there = own_there; back = own_back; has = own_has [] }

-- behind the schedule `r` and `i` come in turn
pub in_turn_behind : (schedule : List Letter) (k : ℕ) → length schedule ≤ k →
    letter_at schedule k ≡ in_turn (k - length schedule)
unfolding letter_at
in_turn_behind schedule k h = rw (slice_get_past schedule k h) refl
