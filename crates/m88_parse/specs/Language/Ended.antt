-- Texts whose last line is ended.
use Rattle.std.specs.Prelude.{ℕ, ◌==◌, List, [], ◌∷◌, if◌then◌else◌}
use Rattle.m88_base.specs.Lines.{line_end, line_feed}

-- a text, its last line ended
unfoldable pub ended : List ℕ → List ℕ
ended [] = []
ended (b ∷ []) = if b == line_feed then b ∷ [] else b ∷ line_end
ended (b ∷ c ∷ bs) = b ∷ ended (c ∷ bs)
