-- The line that refuses an input: the line and the column that are at fault, from 1, and the reason.
use Rattle.std.specs.Prelude.{ℕ, List, ◌++◌, codes, decimal}
use Rattle.m88_base.specs.Lines.{line_end}

-- a reason behind the line and the column that it is told at
abbrev pub placed_reason : ℕ → ℕ → List ℕ → List ℕ
placed_reason line col reason = decimal line ++ codes ":" ++ decimal col ++ codes " " ++ reason

-- the line that refuses an input
abbrev pub refused_line : ℕ → ℕ → List ℕ → List ℕ
refused_line line col reason = codes "refused " ++ placed_reason line col reason ++ line_end
