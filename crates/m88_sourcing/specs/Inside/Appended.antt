-- What was appended to a text.
use Rattle.std.specs.Prelude.{ℕ, List, ◌++◌}
use Rattle.m88_base.specs.Appended.{AreAppended}
use Rattle.m88_base.specs.Lines.{text_of_lines}

-- the first lines of a whole: with any lines that are the others they are it
abbrev pub FrontAppended : (AreWhole AreOthers : List (List ℕ) → Type 0) → List ℕ → List ℕ → Type 0
FrontAppended AreWhole AreOthers old new =
    (others : List (List ℕ)) → AreOthers others → AreAppended AreWhole old (new ++ text_of_lines others)
