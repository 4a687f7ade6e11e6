-- The CR of a line end, cut off.
use Rattle.std.specs.Prelude.{ℕ, List, [], ◌∷◌, ◌==◌, cond}
use Rattle.m88_base.specs.Lines.{carriage_return}

-- the line without a CR that is its last byte
abbrev pub without_cr : List ℕ → List ℕ
without_cr [] = []
without_cr (b ∷ []) = cond (b == carriage_return) [] (b ∷ [])
without_cr (b ∷ c ∷ bs) = b ∷ without_cr (c ∷ bs)
