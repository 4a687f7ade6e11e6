-- How many calls were made of a source or a sink, where it tells the number. Of one that doesn't nothing is said.
use Rattle.std.specs.Prelude.{ℕ, ◌≡◌, ◌+◌, ◌-◌, ◌^◌, ◌≤◌, ◌⊎◌, Option, Some, None}

-- a call raised the number by one, or left it at the greatest number of 64 bits
abbrev pub CountsCall : Option ℕ → Option ℕ → Type 0
CountsCall None now = Unit {0}
CountsCall (Some before) now = (now ≡ Some (before + 1)) ⊎ (before ≡ 2 ^ 64 - 1) × (now ≡ Some before)

-- the number rose by so many at most
abbrev pub CallsWithin : ℕ → Option ℕ → Option ℕ → Type 0
CallsWithin most None now = Unit {0}
CallsWithin most (Some before) None = ⊥
CallsWithin most (Some before) (Some now) = (before ≤ now) × (now ≤ before + most)
