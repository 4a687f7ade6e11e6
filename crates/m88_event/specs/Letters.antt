-- The letters of a run: those of its schedule, and then `r` and `i` in turn.
use Rattle.std.specs.Prelude.{ℕ, Bool, All, List, [], ◌∷◌, ◌≡◌, ◌⊎◌, ◌≤◌, ◌-◌, ◌%◌, ◌==◌, ◌||◌, map, length, slice_get, unwrap_or, if◌then◌else◌, true}
use Rattle.std.specs.List.{list_any}
use Rattle.m88_event.specs.declared.letter.Letter.{Letter}
use Rattle.m88_event.specs.declared.letter.Letter.TheVariants.{Issue, Answer, Evict}

-- the most letters of a schedule
abbrev pub most_letters : ℕ
most_letters = 65536

-- `i`, `r` and `e`
abbrev pub letter_byte : Letter → ℕ
letter_byte Issue = 0x69
letter_byte Answer = 0x72
letter_byte Evict = 0x65

-- letters of any kind that are the schedule of a text: none for `-`, else those of its bytes, of which there are
-- 1 to 65,536
abbrev pub IsScheduleOf : {L : Type 0} → (L → ℕ) → List ℕ → List L → Type 0
IsScheduleOf to_byte text letters =
    (text ≡ 0x2D ∷ []) × (letters ≡ [])
    ⊎ (text ≡ map to_byte letters) × (1 ≤ length letters) × (length letters ≤ most_letters)

-- the same of the letters of one program
abbrev pub IsSchedule : List ℕ → List Letter → Type 0
IsSchedule = IsScheduleOf letter_byte

-- `r` and `i` in turn, beginning with `r`
abbrev pub in_turn : ℕ → Letter
in_turn n = if n % 2 == 0 then Answer else Issue

-- the letter of an event of a run, from 0: the schedule's, and behind it `r` and `i` in turn
unfoldable pub letter_at : List Letter → ℕ → Letter
letter_at schedule k = unwrap_or (slice_get schedule k) (in_turn (k - length schedule))

-- the letter of a byte, for the view of a schedule alone: `i`, `e`, and `r` for any other
abbrev pub letter_of : ℕ → Letter
letter_of byte = if byte == 0x69 then Issue else if byte == 0x65 then Evict else Answer

-- a byte that is a letter, beside some others
abbrev pub is_letter : List ℕ → ℕ → Bool
is_letter others byte = byte == 0x69 || (byte == 0x65 || (byte == 0x72 || list_any (λ other. other == byte) others))

-- each of some bytes is one
abbrev pub AreLetters : List ℕ → List ℕ → Type 0
AreLetters others bytes = All (λ byte. is_letter others byte ≡ true) bytes

-- 1 to 65,536 of them
abbrev pub HasLetters : List ℕ → List ℕ → Type 0
HasLetters others bytes = (1 ≤ length bytes) × (length bytes ≤ most_letters) × AreLetters others bytes

-- the letters of a text by their bytes: none for `-`, else all of it
abbrev pub AreLettersIn : List ℕ → List ℕ → List ℕ → Type 0
AreLettersIn others text letters = (text ≡ 0x2D ∷ []) × (letters ≡ []) ⊎ (letters ≡ text) × HasLetters others text
