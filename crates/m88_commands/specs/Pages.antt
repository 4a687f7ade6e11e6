-- The word ABSENT of a command, which says what pages of memory are absent at first: `none`, `all`, or the numbers of 1
-- to 64 pages, joined by commas. A number may stand twice.
use Rattle.std.specs.Prelude.{ℕ, Bool, ◌≡◌, ◌≤◌, ◌⊎◌, ◌++◌, ◌==◌, List, [], ◌∷◌, codes, length}
use Rattle.std.specs.List.{list_any}
use Rattle.m88_base.specs.Pages.{IsPage, every_page, no_page}
use Rattle.m88_session.specs.Numbers.{IsShortNumber}

-- the most numbers that may stand there
abbrev pub most_numbers : ℕ
most_numbers = 64

-- the byte between two of them
abbrev pub comma : ℕ
comma = 44

-- a text writes the number of a page: in one to seven decimal digits, or in `0x` and one to five hexadecimal ones
pub data IsPageNumber : List ℕ → ℕ → Type 0 where
  in_decimal : {text : List ℕ} {n : ℕ} → IsShortNumber 10 7 text n → IsPage n → IsPageNumber text n
  in_hexadecimal : {text : List ℕ} {n : ℕ} (digits : List ℕ) → text ≡ codes "0x" ++ digits → IsShortNumber 16 5 digits n
      → IsPage n → IsPageNumber text n

-- a text writes the numbers of pages, joined by commas
pub data ArePageNumbers : List ℕ → List ℕ → Type 0 where
  one_number : {text : List ℕ} {n : ℕ} → IsPageNumber text n → ArePageNumbers text (n ∷ [])
  more_numbers : {text : List ℕ} {n : ℕ} {ns : List ℕ} (first rest : List ℕ) → IsPageNumber first n
      → ArePageNumbers rest ns → text ≡ first ++ comma ∷ rest → ArePageNumbers text (n ∷ ns)

-- the pages of some numbers
abbrev pub pages_of : List ℕ → ℕ → Bool
pages_of numbers page = list_any (λ n. n == page) numbers

-- the text says that these pages are absent
abbrev pub IsAbsent : List ℕ → (ℕ → Bool) → Type 0
IsAbsent text absent =
    ((text ≡ codes "none") × (absent ≡ no_page))
    ⊎ ((text ≡ codes "all") × (absent ≡ every_page))
    ⊎ ((numbers : List ℕ) × ArePageNumbers text numbers × (length numbers ≤ most_numbers)
    × (absent ≡ pages_of numbers))
