-- Lines of a kind that were appended to a text.
use Rattle.std.specs.Prelude.{◌≡◌, ℕ, List, ◌++◌}
use Rattle.m88_base.specs.Lines.{text_of_lines}

-- the text is the old one with lines of this kind behind it
pub record AreAppended (Are : List (List ℕ) → Type 0) (old new : List ℕ) : Type 0 where
  pub lines : List (List ℕ)
  pub are : Are lines
  pub text_is : new ≡ old ++ text_of_lines lines
