-- The line of an input that is shown with its refusal.
use Rattle.std.specs.Prelude.{◌≡◌, ℕ, List, None, Some, MatchOption}
use Rattle.m88_base.specs.Lines.{line_numbered}
use Rattle.m88_base.specs.declared.refused.Refused.{Refused}

-- it is the one that the refusal is at; there is none where the input has no such line
abbrev pub IsShownOf : List ℕ → Refused → Type 0
IsShownOf input r =
    MatchOption r.line (line_numbered input r.refusal.line ≡ None)
    (λ line. line_numbered input r.refusal.line ≡ Some line.items)
