-- The lines of a source that were written behind their numbers.
use Rattle.std.specs.Prelude.{ℕ, List, ◌≡◌, ◌+◌, ◌-◌, ◌<◌, ◌≤◌, ◌∷◌, ◌++◌, drop, length, map, Option, take}
use Rattle.std.specs.List.{enumerate_from}
use Rattle.m88_base.specs.Cut.{Lacks}
use Rattle.m88_base.specs.Lines.{line_end, line_feed, lines_of, text_of_lines}
use Rattle.m88_listing.specs.Columns.{bare_line}
use Rattle.m88_listing.specs.Inside.Slots.{walked}
use Rattle.m88_listing.specs.declared.slots.Slot.{Slot}

-- the text of lines behind their numbers
abbrev pub bare_text : List (ℕ × List ℕ) → List ℕ
bare_text lines = text_of_lines (map (λ e. bare_line e.0 e.1) lines)

-- a block of 1,024 bytes has room for a short line of a source behind its columns
abbrev pub HasRoomForLine : List ℕ → Type 0
HasRoomForLine block = length block + 128 ≤ 1024

-- the first LF of a text stands behind so many bytes
pub record IsFirstFeed (text : List ℕ) (n : ℕ) : Type 0 where
  pub within : n < length text
  pub before : Lacks line_feed (take n text)
  pub feed : drop n text ≡ line_feed ∷ drop (n + 1) text

-- the first line of a source was added to a text behind its number, and the others are left
pub record PushesFirst (number : ℕ) (source before after left : List ℕ) : Type 0 where
  pub line : List ℕ
  pub lines : lines_of source ≡ line ∷ lines_of left
  pub text : after ≡ before ++ (bare_line number line ++ line_end)
  pub shorter : length left < length source

-- lines of a source were added to a text, the first of them behind a number and the others behind the numbers from
-- there on, and the others are left: those from a number on, or none
pub record PushesLines (source : List ℕ) (first until next : ℕ) (before after left : List ℕ) : Type 0 where
  pub text : after ≡ before ++ bare_text (take (next - first) (enumerate_from first (lines_of source)))
  pub rest : lines_of left ≡ drop (next - first) (lines_of source)
  pub forward : first ≤ next
  pub shorter : next + length left ≤ first + length source
  pub within : first ≤ until → next ≤ until
  pub stops : 0 < length left → next ≡ until

-- the lines of a source up to a number were added to a text with what is kept of their rows, the first of them behind a
-- number, and the others are left
pub record PushesRows (found : ℕ → Option ℕ) (slots : List Slot) (source : List ℕ) (first until next : ℕ)
    (before after left : List ℕ) : Type 0 where
  pub text : after ≡ before ++ text_of_lines (walked found first (take (until - first) (lines_of source)) slots)
  pub rest : lines_of left ≡ drop (until - first) (lines_of source)
  pub forward : first ≤ next
  pub within : next ≤ until
  pub shorter : next + length left ≤ first + length source
  pub stops : 0 < length left → next ≡ until
