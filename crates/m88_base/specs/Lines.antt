-- The lines of an input. A line ends by LF, by CR LF or with the input; a line end that is the last thing in the input
-- opens no further line, and an empty input has no line.
use Rattle.std.specs.Prelude.{ℕ, ◌≡◌, ◌≢◌, Bool, false, List, [], ◌∷◌, ◌++◌, ◌==◌, ◌&&◌, ◌-◌, Option, flat_map, if◌then◌else◌, slice_get}

-- the byte that ends a line
abbrev pub line_feed : ℕ
line_feed = 10

-- the byte that may stand before it and belongs to the line end then
abbrev pub carriage_return : ℕ
carriage_return = 13

-- the line end that every format writes
abbrev pub line_end : List ℕ
line_end = line_feed ∷ []

-- the text of lines, a line end behind each
abbrev pub text_of_lines : List (List ℕ) → List ℕ
text_of_lines lines = flat_map (λ line. line ++ line_end) lines

-- one line: no line feed is in it, and no carriage return at its end
abbrev pub IsOneLine : List ℕ → Type 0
IsOneLine [] = Unit {0}
IsOneLine (b ∷ bs) = (b ≢ line_feed) × (b ≡ carriage_return → bs ≢ []) × IsOneLine bs

-- the bytes begin with an LF
abbrev pub begins_with_lf : List ℕ → Bool
begins_with_lf [] = false
begins_with_lf (b ∷ bs) = b == line_feed

-- the bytes behind the first LF, none where there is none
abbrev pub behind_line : List ℕ → List ℕ
behind_line [] = []
behind_line (b ∷ bs) = if b == line_feed then bs else behind_line bs

-- the lines with one more byte in front of the first of them
abbrev pub on_first_line : ℕ → List (List ℕ) → List (List ℕ)
on_first_line b [] = (b ∷ []) ∷ []
on_first_line b (line ∷ lines) = (b ∷ line) ∷ lines

-- the lines of an input in order, each without its line end
unfoldable pub lines_of : List ℕ → List (List ℕ)
lines_of [] = []
lines_of (b ∷ bs) =
    if b == line_feed then [] ∷ lines_of bs
    else (if b == carriage_return && begins_with_lf bs then lines_of bs else on_first_line b (lines_of bs))

-- the line of a number, from 1
abbrev pub line_numbered : List ℕ → ℕ → Option (List ℕ)
line_numbered input number = slice_get (lines_of input) (number - 1)
