-- A list cut into pieces of n elements, n not 0, of which the last has what is left.
use Rattle.std.specs.Prelude.{ℕ, ◌+◌, ◌-◌, ◌*◌, ◌/◌, List, length, map, take, drop}
use Rattle.std.specs.List.{range_with_len}

-- the piece with a number, counted from 0
abbrev pub piece : {A : Type 0} → ℕ → List A → ℕ → List A
piece n list number = take n (drop (number * n) list)

-- how many pieces there are, none of an empty list
abbrev pub piece_count : {A : Type 0} → ℕ → List A → ℕ
piece_count n list = (length list + (n - 1)) / n

-- the pieces in order
unfoldable pub pieces : {A : Type 0} → ℕ → List A → List (List A)
pieces n list = map (piece n list) (range_with_len 0 (piece_count n list))
