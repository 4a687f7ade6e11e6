-- Bytes that are few and kept in place, or else stand in memory of their own.
use Rattle.std.specs.Prelude.{ℕ, List, [], ◌∷◌}

-- the few where there are some, else the others
abbrev pub kept_bytes : List ℕ → List ℕ → List ℕ
kept_bytes [] others = others
kept_bytes (b ∷ few) others = b ∷ few
