-- The bits of pages, and the words that have all of them.
use Rattle.std.proofs.Common.{Bool, ◌≡◌, ◌≢◌, ℕ, ◌<◌, ◌*◌, ◌/◌, ◌%◌, ◌^◌, ◌==◌, ◌&&◌, ◌||◌, ◌⊎◌, true, false, List, nat_lt, bit_or, bit_and, replicate, length, slice_index_or, slice_set, if◌then◌else◌, refl, arith, ap, sym, ◌∙◌, inl, inr}
use Rattle.std.specs.Int.{bit_at, bit_not, w32}
use Rattle.std.proofs.lemmas.Bool.{cases_eq, cases_lt, eqb-true}
use Rattle.std.proofs.lemmas.Bool.Decides.{nat_tests}
use Rattle.std.proofs.lemmas.List.{get_or-set_same, get_or-replicate, get_or-set_other, length-replicate}
use Rattle.std.proofs.lemmas.Nat.{le_or_l, or_lt}
use Rattle.std.proofs.lemmas.Nat.Bits.{bit_at-zero, bit_at_clear_other, bit_at_clear_same, bit_at_ones, bit_at_set_other, bit_at_set_same}
use Rattle.std.proofs.Math.ListN.{get_or-eq_default}
use Rattle.m88_base.specs.Pages.{page_count}
use Rattle.m88_mem.proofs.Levels.{at_any}
use Rattle.m88_mem.specs.Inside.Marks.{every_bit, is_full, is_marked, mark_words}
use Rattle.m88_mem.specs.Marks.{with_page}

-- the bits of pages once a word changes
marked_set : (words : List ℕ) (page word p : ℕ) → page < length words * 32 →
    is_marked (slice_set words (page / 32) word) p ≡ (if p / 32 == page / 32 then bit_at word (p % 32) == 1 else is_marked words p)
marked_set words page word p within = elim (cases_eq (p / 32) (page / 32)) [
  | inl e ↦
      let test : (p / 32 == page / 32) ≡ true = grind (arith, nat_tests) in
      let here : slice_index_or (slice_set words (page / 32) word) (p / 32) 0 ≡ word =
      ap (λ i. slice_index_or (slice_set words (page / 32) word) i 0) e
      ∙ get_or-set_same words (page / 32) word 0 (omega (arith, within)) in
      rw (test, here) refl
  | inr ne ↦
      let test : (p / 32 == page / 32) ≡ false = grind (arith, nat_tests) in
      rw (test, get_or-set_other words (page / 32) (p / 32) word 0 ne) refl
]

-- a page's bit is set
pub marked_with : (words : List ℕ) (page p : ℕ) → page < length words * 32 →
    is_marked (slice_set words (page / 32) (bit_or (slice_index_or words (page / 32) 0) (1 * 2 ^ (page % 32) % 2 ^ 32))) p
    ≡ (page == p || is_marked words p)
marked_with words page p within = marked_set words page _ p within ∙ by_word (cases_eq (p / 32) (page / 32)) (cases_eq (p % 32) (page % 32))
  where
    by_word : (p / 32 ≡ page / 32) ⊎ (p / 32 ≢ page / 32) → (p % 32 ≡ page % 32) ⊎ (p % 32 ≢ page % 32) →
        (if p / 32 == page / 32 then bit_at (bit_or (slice_index_or words (page / 32) 0) (1 * 2 ^ (page % 32) % 2 ^ 32)) (p % 32) == 1
        else is_marked words p) ≡ (page == p || is_marked words p)
    by_word (inl e) (inl f) =
        let test : (p / 32 == page / 32) ≡ true = grind (arith, nat_tests) in
        let same : (page == p) ≡ true = grind (arith, nat_tests) in
        rw (test, same, f) (ap (λ n. n == 1) (bit_at_set_same w32 (slice_index_or words (page / 32) 0) (page % 32) (omega arith)))
    by_word (inl e) (inr ne) =
        let test : (p / 32 == page / 32) ≡ true = grind (arith, nat_tests) in
        let apart : (page == p) ≡ false = grind (arith, nat_tests) in
        rw (test, apart)
        (ap (λ n. n == 1) (bit_at_set_other w32 (slice_index_or words (page / 32) 0) (page % 32) (omega arith) (p % 32) ne)
        ∙ ap (λ i. bit_at (slice_index_or words i 0) (p % 32) == 1) (sym e))
    by_word (inr ne) _ =
        let test : (p / 32 == page / 32) ≡ false = grind (arith, nat_tests) in
        let apart : (page == p) ≡ false = grind (arith, nat_tests) in
        rw (test, apart) refl

-- a word that is full stays so where a bit is set
pub full_with : (words : List ℕ) (place word bit k : ℕ) → place < length words →
    word ≡ slice_index_or words place every_bit → bit < 2 ^ 32 → is_full words k ≡ true →
    is_full (slice_set words place (bit_or word bit)) k ≡ true
full_with words place word bit k within was small full = elim (cases_eq k place) [
  | inl e ↦
      let every : word ≡ every_bit =
      was ∙ ap (λ i. slice_index_or words i every_bit) (sym e) ∙ eqb-true (slice_index_or words k every_bit) every_bit full in
      let here : slice_index_or (slice_set words place (bit_or word bit)) k every_bit ≡ bit_or word bit =
      ap (λ i. slice_index_or (slice_set words place (bit_or word bit)) i every_bit) e
      ∙ get_or-set_same words place (bit_or word bit) every_bit within in
      let low = le_or_l word bit in
      let high = or_lt 32 word bit (omega (arith, every)) small in
      let all : bit_or word bit ≡ every_bit = omega (arith, low, high, every) in
      rw (here, all) refl
  | inr ne ↦ rw (get_or-set_other words place k (bit_or word bit) every_bit ne) full
]

-- the same as a set with that page put in
pub put_in : (set : ℕ → Bool) (page p : ℕ) → (page == p || set p) ≡ with_page page true set p
put_in set page p = elim (cases_eq p page) [
  | inl e ↦
      let test : (p == page) ≡ true = grind (arith, nat_tests) in
      let same : (page == p) ≡ true = grind (arith, nat_tests) in
      rw (test, same) refl
  | inr ne ↦
      let test : (p == page) ≡ false = grind (arith, nat_tests) in
      let apart : (page == p) ≡ false = grind (arith, nat_tests) in
      rw (test, apart) refl
]

-- a page's bit is cleared
pub marked_without : (words : List ℕ) (page p : ℕ) → page < length words * 32 →
    is_marked (slice_set words (page / 32) (bit_and (slice_index_or words (page / 32) 0) (bit_not w32 (1 * 2 ^ (page % 32) % 2 ^ 32)))) p
    ≡ with_page page false (is_marked words) p
marked_without words page p within = marked_set words page _ p within ∙ by_word (cases_eq (p / 32) (page / 32)) (cases_eq (p % 32) (page % 32))
  where
    by_word : (p / 32 ≡ page / 32) ⊎ (p / 32 ≢ page / 32) → (p % 32 ≡ page % 32) ⊎ (p % 32 ≢ page % 32) →
        (if p / 32 == page / 32
        then bit_at (bit_and (slice_index_or words (page / 32) 0) (bit_not w32 (1 * 2 ^ (page % 32) % 2 ^ 32))) (p % 32) == 1
        else is_marked words p) ≡ with_page page false (is_marked words) p
    by_word (inl e) (inl f) =
        let test : (p / 32 == page / 32) ≡ true = grind (arith, nat_tests) in
        let same : (p == page) ≡ true = grind (arith, nat_tests) in
        rw (test, same, f) (ap (λ n. n == 1) (bit_at_clear_same w32 (slice_index_or words (page / 32) 0) (page % 32) (omega arith)))
    by_word (inl e) (inr ne) =
        let test : (p / 32 == page / 32) ≡ true = grind (arith, nat_tests) in
        let apart : (p == page) ≡ false = grind (arith, nat_tests) in
        rw (test, apart)
        (ap (λ n. n == 1) (bit_at_clear_other w32 (slice_index_or words (page / 32) 0) (page % 32) (omega arith) (p % 32) (omega arith) ne)
        ∙ ap (λ i. bit_at (slice_index_or words i 0) (p % 32) == 1) (sym e))
    by_word (inr ne) _ =
        let test : (p / 32 == page / 32) ≡ false = grind (arith, nat_tests) in
        let apart : (p == page) ≡ false = grind (arith, nat_tests) in
        rw (test, apart) refl

-- words that are all the same
pub marked_alike : (words : List ℕ) (word count : ℕ) → count ≡ mark_words → words ≡ replicate count word →
    (p : ℕ) → is_marked words p ≡ (bit_at word (p % 32) == 1 && nat_lt p page_count)
marked_alike words word count few e p = elim (cases_lt p page_count) [
  | inl below ↦
      let test : nat_lt p page_count ≡ true = grind (arith, nat_tests) in
      let at : slice_index_or words (p / 32) 0 ≡ word =
      ap (λ xs. slice_index_or xs (p / 32) 0) e ∙ get_or-replicate count (p / 32) word 0 (omega (arith, below, few)) in
      rw (at, test) (with_true (bit_at word (p % 32) == 1))
  | inr past ↦
      let test : nat_lt p page_count ≡ false = grind (arith, nat_tests) in
      let none : slice_index_or words (p / 32) 0 ≡ 0 =
      get_or-eq_default words 0 (omega (arith, past, few, ap length e, length-replicate count word)) in
      rw (none, test) (ap (λ n. n == 1) (bit_at-zero (p % 32)) ∙ with_false (bit_at word (p % 32) == 1))
]
  where
    with_true : (b : Bool) → b ≡ (b && true)
    with_true true = refl
    with_true false = refl

    with_false : (b : Bool) → false ≡ (b && false)
    with_false true = refl
    with_false false = refl

-- words of ones name all pages, and words of zeros none
pub all_marked : (p : ℕ) → (bit_at 4294967295 (p % 32) == 1 && nat_lt p page_count) ≡ nat_lt p page_count
all_marked p = rw (bit_at_ones 32 (p % 32) (omega arith)) refl

pub none_marked : (p : ℕ) → (bit_at 0 (p % 32) == 1 && nat_lt p page_count) ≡ false
none_marked p = rw (bit_at-zero (p % 32)) refl

-- words that are all full name all pages
pub full_marked : (words : List ℕ) → length words ≡ mark_words → ((k : ℕ) → is_full words k ≡ true) →
    (p : ℕ) → is_marked words p ≡ nat_lt p page_count
full_marked words long full p = elim (cases_lt p page_count) [
  | inl below ↦
      let test : nat_lt p page_count ≡ true = grind (arith, nat_tests) in
      let at : slice_index_or words (p / 32) 0 ≡ every_bit =
      at_any words (p / 32) 0 every_bit (omega (arith, below, long))
      ∙ eqb-true (slice_index_or words (p / 32) every_bit) every_bit (full (p / 32)) in
      rw (at, test) (ap (λ n. n == 1) (bit_at_ones 32 (p % 32) (omega arith)))
  | inr past ↦
      let test : nat_lt p page_count ≡ false = grind (arith, nat_tests) in
      let none : slice_index_or words (p / 32) 0 ≡ 0 = get_or-eq_default words 0 (omega (arith, past, long)) in
      rw (none, test) (ap (λ n. n == 1) (bit_at-zero (p % 32)))
]
