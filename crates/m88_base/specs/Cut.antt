-- A text cut at the first byte of a value.
use Rattle.std.specs.Prelude.{ℕ, ◌≡◌, ◌==◌, Bool, true, not, List, [], ◌∷◌, Option, None, Some, option_map, if◌then◌else◌}
use Rattle.std.specs.List.{list_all}

-- a byte in front of the first of two parts
abbrev pub with_first : ℕ → List ℕ × List ℕ → List ℕ × List ℕ
with_first b p = (b ∷ p.0, p.1)

-- what stands before the first byte of a value, and what stands behind it
abbrev pub split_at_byte : ℕ → List ℕ → Option (List ℕ × List ℕ)
split_at_byte at [] = None
split_at_byte at (b ∷ bs) = if b == at then Some ([], bs) else option_map (with_first b) (split_at_byte at bs)

-- whether a text has no byte of the value
abbrev pub lacks : ℕ → List ℕ → Bool
lacks at text = list_all (λ b. not (b == at)) text

-- a text has no byte of the value
abbrev pub Lacks : ℕ → List ℕ → Type 0
Lacks at text = lacks at text ≡ true
