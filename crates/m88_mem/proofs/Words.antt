-- The words of the data bus by frames.
use Rattle.std.proofs.Common.{◌≡◌, ℕ, zero, suc, ◌<◌, ◌≤◌, ◌+◌, ◌*◌, ◌/◌, ◌%◌, ◌==◌, ◌&&◌, true, false, List, Option, Some, None, replicate, is_some, unwrap_or, slice_get, slice_index_or, if◌then◌else◌, refl, arith, ap, sym, ◌∙◌, inl, inr}
use Rattle.std.proofs.lemmas.Bool.{cases_eq}
use Rattle.std.proofs.lemmas.Bool.Decides.{nat_tests}
use Rattle.m88_base.specs.Found.{IsFree, filled}
use Rattle.m88_base.specs.Image.{ProgramImage, byte_at}
use Rattle.m88_isa.specs.Address.{word_address}
use Rattle.m88_base.specs.Pages.{page_number}
use Rattle.m88_isa.specs.Bus.{in_words, with_word}
use Rattle.m88_isa.specs.Lanes.{number_at}
use Rattle.m88_mem.proofs.Levels.{not_some}
use Rattle.m88_mem.specs.DataBus.{image_bus, image_bytes, page_words}
use Rattle.m88_mem.specs.Inside.Frames.{with_frame, word_in}
use Rattle.m88_mem.specs.declared.frames.PageFrame.{PageFrame}

-- the word of the image is that of each address of the word
pub same_image_word : (image : ProgramImage) (a b : ℕ) → a / 4 ≡ b / 4 → image_bus image a ≡ image_bus image b
unfolding in_words
same_image_word image a b e = ap (λ place. number_at (image_bytes image) (place * 4) 4) e

-- a data bus whose words stand at places of pages, and the image's where a place has none
abbrev pub bus_by : (ℕ → ℕ → Option ℕ) → (ℕ → ℕ) → ℕ → ℕ
bus_by words image a = unwrap_or (words (page_number a) (a / 4 % page_words)) (image a)

-- the data bus once a word at a place of a page changes
pub put_word : (old new : ℕ → ℕ → Option ℕ) (image : ℕ → ℕ) (addr word : ℕ) → addr % 4 ≡ 0 →
    ((p k : ℕ) → new p k ≡ (if p == page_number addr && k == addr / 4 % page_words then Some word else old p k)) →
    (a : ℕ) → bus_by new image a ≡ with_word (bus_by old image) addr word a
unfolding with_word
put_word old new image addr word place change a = elim (cases_eq (word_address a) addr) [
  | inl e ↦
      let page : (page_number a == page_number addr) ≡ true = grind (arith, nat_tests) in
      let at : (a / 4 % page_words == addr / 4 % page_words) ≡ true = grind (arith, nat_tests) in
      let same : (word_address a == addr) ≡ true = grind (arith, nat_tests) in
      rw (change (page_number a) (a / 4 % page_words), page, at, same) refl
  | inr ne ↦
      let other : (word_address a == addr) ≡ false = grind (arith, nat_tests) in
      let apart : (page_number a == page_number addr && a / 4 % page_words == addr / 4 % page_words) ≡ false =
      not_both (page_number a) (page_number addr) (a / 4 % page_words) (addr / 4 % page_words)
      (λ p k. ne (omega (arith, p, k, place))) in
      rw (change (page_number a) (a / 4 % page_words), apart, other) refl
]
  where
    not_both : (p q k l : ℕ) → (p ≡ q → k ≡ l → ⊥) → (p == q && k == l) ≡ false
    not_both p q k l h = elim (cases_eq p q) [
      | inl e ↦
          elim (cases_eq k l) [
            | inl f ↦ absurd (h e f)
            | inr nf ↦
                let test : (p == q) ≡ true = grind (arith, nat_tests) in
                let last : (k == l) ≡ false = grind (arith, nat_tests) in
                rw (test, last) refl
          ]
      | inr ne ↦ let test : (p == q) ≡ false = grind (arith, nat_tests) in rw test refl
    ]

-- the data bus once a page has a frame with the words of the image
pub framed_word : (image : ProgramImage) (before now : ℕ → Option PageFrame) (page : ℕ) (frame : PageFrame) →
    is_some (before page) ≡ false →
    ((p : ℕ) → now p ≡ with_frame page (Some frame) before p) →
    ((k : ℕ) → k < page_words → slice_get frame.words.items k ≡ Some (image_bus image (page * 4096 + k * 4))) →
    (a : ℕ) → bus_by (λ p. word_in (now p)) (image_bus image) a ≡ bus_by (λ p. word_in (before p)) (image_bus image) a
unfolding word_in
framed_word image before now page frame none frames words a = elim (cases_eq (page_number a) page) [
  | inl e ↦
      let test : (page_number a == page) ≡ true = grind (arith, nat_tests) in
      let here : now (page_number a) ≡ Some frame = frames (page_number a) ∙ rw test refl in
      let earlier : before (page_number a) ≡ None = ap before e ∙ not_some (before page) none in
      let word : slice_get frame.words.items (a / 4 % page_words) ≡ Some (image_bus image (page * 4096 + a / 4 % page_words * 4)) =
      words (a / 4 % page_words) (omega arith) in
      rw (here, earlier, word) (same_image_word image (page * 4096 + a / 4 % page_words * 4) a (omega (arith, e)))
  | inr ne ↦
      let test : (page_number a == page) ≡ false = grind (arith, nat_tests) in
      let there : now (page_number a) ≡ before (page_number a) = frames (page_number a) ∙ rw test refl in
      rw there refl
]

-- where the image has no byte the words of its data bus are 0
blank_byte : (image : ProgramImage) (at n a : ℕ) → IsFree (byte_at image) at n → at ≤ a → a < at + n → image_bytes image a ≡ 0
unfolding image_bytes
blank_byte image at n a free low high = rw (free a (low, high)) refl

zeros_at : (memory : ℕ → ℕ) (place n : ℕ) → ((i : ℕ) → i < n → memory (place + i) ≡ 0) → number_at memory place n ≡ 0
zeros_at memory place zero z = refl
zeros_at memory place (suc n) z = rw (zeros_at memory place n (λ i h. z i (omega arith)), z n (omega arith)) refl

pub blank_word : (image : ProgramImage) (page k : ℕ) → IsFree (byte_at image) (page * 4096) 4096 → k < 1024 → image_bus image (page * 4096 + k * 4) ≡ 0
unfolding in_words
blank_word image page k free few =
    let at : word_address (page * 4096 + k * 4) ≡ page * 4096 + k * 4 = omega arith in
    let byte = λ (i : ℕ) (h : i < 4). blank_byte image (page * 4096) 4096 (page * 4096 + k * 4 + i) free (omega arith) (omega (arith, few, h)) in
    rw at (zeros_at (image_bytes image) (page * 4096 + k * 4) 4 byte)

-- the same of one word
pub free_word : (image : ProgramImage) (addr : ℕ) → addr % 4 ≡ 0 → IsFree (byte_at image) addr 4 → image_bus image addr ≡ 0
unfolding in_words
free_word image addr aligned free =
    let at : word_address addr ≡ addr = omega (arith, aligned) in
    let byte = λ (i : ℕ) (h : i < 4). blank_byte image addr 4 (addr + i) free (omega arith) (omega (arith, h)) in
    rw at (zeros_at (image_bytes image) addr 4 byte)

-- and so a frame of zeros has the words that the image has there
zero_among : (n k : ℕ) → k < n → slice_get {X = ℕ} (replicate n 0) k ≡ Some 0
zero_among zero k few = absurd (omega (arith, few))
zero_among (suc n) zero few = refl
zero_among (suc n) (suc k) few = zero_among n k (omega (arith, few))

pub blank_frame : (image : ProgramImage) (page : ℕ) (words : List ℕ) (n : ℕ) → n ≡ 1024 → words ≡ replicate n 0
    → IsFree (byte_at image) (page * 4096) 4096 → (k : ℕ) → k < 1024 → slice_get words k ≡ Some (image_bus image (page * 4096 + k * 4))
blank_frame image page words n e is free k few =
    ap (λ ws. slice_get ws k) is ∙ zero_among n k (omega (arith, e, few)) ∙ ap (λ w. Some w) (sym (blank_word image page k free few))

-- zeros over which what is found was written
filled_zeros : (found : ℕ → Option ℕ) (at n k : ℕ) → k < n → slice_index_or (filled found at (replicate n 0)) k 0 ≡ unwrap_or (found (at + k)) 0
filled_zeros found at zero k few = absurd (omega (arith, few))
filled_zeros found at (suc n) zero few = let e : at ≡ at + 0 = omega arith in ap (λ a. unwrap_or (found a) 0) e
filled_zeros found at (suc n) (suc k) few =
    let e : at + 1 + k ≡ at + suc k = omega arith in
    filled_zeros found (at + 1) n k (omega (arith, few)) ∙ ap (λ a. unwrap_or (found a) 0) e

byte_in_page : (image : ProgramImage) (page k a n : ℕ) (bytes : List ℕ) → bytes ≡ filled (byte_at image) (page * 4096) (replicate n 0)
    → k < n → a ≡ page * 4096 + k → slice_index_or bytes k 0 ≡ image_bytes image a
unfolding image_bytes
byte_in_page image page k a n bytes is few at =
    ap (λ bs. slice_index_or bs k 0) is ∙ filled_zeros (byte_at image) (page * 4096) n k few
    ∙ ap (λ b. unwrap_or (byte_at image b) 0) (sym at)

same_number : (f g : ℕ → ℕ) (a b n : ℕ) → ((i : ℕ) → i < n → f (a + i) ≡ g (b + i)) → number_at f a n ≡ number_at g b n
same_number f g a b zero same = refl
same_number f g a b (suc n) same = rw (same_number f g a b n (λ i few. same i (omega (arith, few))), same n (omega arith)) refl

-- the words among the bytes of a page are the image's there
pub word_in_page : (image : ProgramImage) (page place n : ℕ) (bytes : List ℕ) → n ≡ 4096 → bytes ≡ filled (byte_at image) (page * 4096) (replicate n 0)
    → place < 1024 → in_words (λ a. slice_index_or bytes a 0) (place * 4) ≡ image_bus image (page * 4096 + place * 4)
unfolding in_words
word_in_page image page place n bytes e is few =
    let here : word_address (place * 4) ≡ place * 4 = omega arith in
    let there : word_address (page * 4096 + place * 4) ≡ page * 4096 + place * 4 = omega arith in
    rw (here, there)
    (same_number (λ a. slice_index_or bytes a 0) (image_bytes image) (place * 4) (page * 4096 + place * 4) 4
    (λ i low. byte_in_page image page (place * 4 + i) (page * 4096 + place * 4 + i) n bytes is (omega (arith, e, few, low)) (omega arith)))
