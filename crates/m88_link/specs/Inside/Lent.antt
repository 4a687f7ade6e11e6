-- Bytes that are lent, or else copied.
use Rattle.std.specs.Prelude.{ℕ, List, [], ◌∷◌}

-- one's own where there are some, else those that are lent
abbrev pub own_or_lent : List ℕ → List ℕ → List ℕ
own_or_lent [] lent = lent
own_or_lent (b ∷ own) lent = b ∷ own
