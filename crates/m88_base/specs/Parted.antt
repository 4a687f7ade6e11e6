-- An input parted at the first of its lines that is a word, as a script is from the source behind it.
use Rattle.std.specs.Prelude.{ℕ, zero, suc, ◌≡◌, ◌≢◌, ◌+◌, ◌++◌, List, ◌∷◌, length}
use Rattle.std.specs.List.{All}
use Rattle.m88_base.specs.Lines.{behind_line, lines_of}

-- what stands behind so many lines of an input
abbrev pub behind_lines : ℕ → List ℕ → List ℕ
behind_lines zero input = input
behind_lines (suc n) input = behind_lines n (behind_line input)

-- none of the lines of a text is the word
abbrev pub LacksLine : List ℕ → List ℕ → Type 0
LacksLine word text = All (λ line. line ≢ word) (lines_of text)

-- the input is parted at the first line that is the word: into what stands before that line, which is the last of `n`
-- lines, and what stands behind it
pub record IsParted (word input before : List ℕ) (n : ℕ) (behind : List ℕ) : Type 0 where
  pub lines_are : lines_of input ≡ lines_of before ++ word ∷ lines_of behind
  pub is_first : LacksLine word before
  pub number : n ≡ length (lines_of before) + 1
  pub before_is : input ≡ before ++ behind_lines (length (lines_of before)) input
  pub behind_is : behind ≡ behind_lines n input

-- the input has `n` lines, and none of them is the word
pub record IsUnparted (word input : List ℕ) (n : ℕ) : Type 0 where
  pub has_none : LacksLine word input
  pub number : n ≡ length (lines_of input)
