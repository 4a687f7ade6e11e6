-- Lines that were appended to a text: those of an equal text, and a line before others.
use Rattle.std.proofs.Common.{◌≡◌, ℕ, List, ◌∷◌, ◌++◌, ap, ◌∙◌, append_assoc}
use Rattle.m88_base.specs.Appended.{AreAppended}
use Rattle.m88_base.specs.Lines.{line_end, text_of_lines}

-- the same lines, of a text that is equal
pub retold : (Are : List (List ℕ) → Type 0) (old new same : List ℕ) → same ≡ new → AreAppended Are old new
    → AreAppended Are old same
retold Are old new same e l = record { lines = l.lines; are = l.are; text_is = e ∙ l.text_is }

-- a line before others
pub line_before : (old new line : List ℕ) (lines : List (List ℕ)) → new ≡ old ++ (line ++ line_end)
    → new ++ text_of_lines lines ≡ old ++ text_of_lines (line ∷ lines)
line_before old new line lines e =
    ap (λ (xs : List ℕ). xs ++ text_of_lines lines) e ∙ append_assoc old (line ++ line_end) (text_of_lines lines)
