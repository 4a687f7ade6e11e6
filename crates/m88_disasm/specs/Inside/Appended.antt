-- What was appended to a text.
use Rattle.std.specs.Prelude.{◌≡◌, ◌+◌, ℕ, List, ◌++◌, drop}
use Rattle.m88_base.specs.Appended.{AreAppended}
use Rattle.m88_base.specs.Lines.{line_end, text_of_lines}
use Rattle.m88_disasm.specs.Listing.{AreLinesFrom}

-- a line of this kind
pub record LineAppended (Is : List ℕ → Type 0) (old new : List ℕ) : Type 0 where
  pub line : List ℕ
  pub is : Is line
  pub text_is : new ≡ old ++ (line ++ line_end)

-- the lines of the first n bytes from an address on: with the lines of the other bytes they are the lines of all
abbrev pub BytesAppended : ℕ → List ℕ → List ℕ → List ℕ → ℕ → Type 0
BytesAppended at bytes old new n =
    (lines : List (List ℕ)) → AreLinesFrom (at + n) (drop n bytes) lines
    → AreAppended (AreLinesFrom at bytes) old (new ++ text_of_lines lines)
