-- The pages that are absent: a bit for each page, 32 pages to a word, and the places of the words that lack a bit.
use Rattle.std.specs.Prelude.{ℕ, Bool, true, false, List, ◌≡◌, ◌/◌, ◌%◌, ◌^◌, ◌==◌, ◌||◌, length, slice_index_or}
use Rattle.std.specs.Int.{bit_at}
use Rattle.std.specs.List.{list_any}
use Rattle.m88_mem.specs.declared.marks.Gaps.{Gaps}

-- how many words have a bit for each page
abbrev pub mark_words : ℕ
mark_words = 2 ^ 15

-- a page has its bit in some words
abbrev pub is_marked : List ℕ → ℕ → Bool
is_marked words page = bit_at (slice_index_or words (page / 32) 0) (page % 32) == 1

-- a page is in a set that has a value for each page
abbrev pub is_in : List Bool → ℕ → Bool
is_in pages page = slice_index_or pages page false

-- a word with all its bits
abbrev pub every_bit : ℕ
every_bit = 4294967295

-- the word at a place has all its bits, as if it were where there is none
abbrev pub is_full : List ℕ → ℕ → Bool
is_full words place = slice_index_or words place every_bit == every_bit

-- the word at a place may lack a bit: its place is noted, or perhaps not each is
abbrev pub may_lack : Gaps → ℕ → Bool
may_lack gaps place = gaps.more || list_any (λ noted. noted == place) gaps.noted.items

-- what holds of the bits of pages: there are as many words as all pages need, and each that isn't full may lack a bit
pub record AreMarks (words : List ℕ) (gaps : Gaps) : Type 0 where
  pub long : length words ≡ mark_words
  pub full : (place : ℕ) → (may_lack gaps place || is_full words place) ≡ true
