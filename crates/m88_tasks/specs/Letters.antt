-- The letters of a shared run: those of its schedule, and then `r` and `i` in turn.
use Rattle.std.specs.Prelude.{ℕ, List, [], ◌∷◌, ◌-◌, ◌==◌, length, slice_get, unwrap_or, if◌then◌else◌}
use Rattle.m88_event.specs.Letters.{IsScheduleOf, in_turn, letter_byte, letter_of}
use Rattle.m88_tasks.specs.declared.letter.ShareLetter.{ShareLetter}
use Rattle.m88_tasks.specs.declared.letter.ShareLetter.TheVariants.{Own, Turn}

-- `i`, `r` and `e` of the program that runs, and `t`
abbrev pub share_byte : ShareLetter → ℕ
share_byte (Own letter) = letter_byte letter
share_byte Turn = 0x74

-- the schedule of a text: none for `-`, else its letters, of which there are 1 to 65,536
abbrev pub IsShareSchedule : List ℕ → List ShareLetter → Type 0
IsShareSchedule = IsScheduleOf share_byte

-- the letter of an event of a shared run, from 0: the schedule's, and behind it `r` and `i` in turn, counted over the
-- whole board
unfoldable pub share_letter_at : List ShareLetter → ℕ → ShareLetter
share_letter_at schedule k = unwrap_or (slice_get schedule k) (Own (in_turn (k - length schedule)))

-- the letter of a byte, for the view of a schedule alone: `t`, or that of the program that runs
abbrev pub share_letter_of : ℕ → ShareLetter
share_letter_of byte = if byte == 0x74 then Turn else Own (letter_of byte)

-- the bytes that are letters beside those of the program that runs
abbrev pub beside_own : List ℕ
beside_own = 0x74 ∷ []
