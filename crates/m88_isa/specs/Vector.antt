-- The vectors that instructions raise ("Exception Processing": exception vectors).
use Rattle.std.specs.Prelude.{ℕ, ◌≡◌, ◌≤◌, ◌⊎◌, ◌+◌, ◌*◌, ◌-◌, ◌%◌, ◌==◌, if◌then◌else◌}

-- an instruction that can't be fetched
abbrev pub instruction_access : ℕ
instruction_access = 2

-- an access to data memory that can't be made
abbrev pub data_access : ℕ
data_access = 3

-- an access to memory that isn't aligned to its size, with MXM clear
abbrev pub misaligned : ℕ
misaligned = 4

-- an instruction that isn't implemented
abbrev pub unimplemented : ℕ
unimplemented = 5

-- an instruction for the supervisor alone
abbrev pub privilege : ℕ
privilege = 6

-- a bounds check that fails
abbrev pub out_of_bounds : ℕ
out_of_bounds = 7

-- a division by 0, or a signed one where either number is negative
abbrev pub bad_division : ℕ
bad_division = 8

-- a signed sum or difference that doesn't fit
abbrev pub overflow : ℕ
overflow = 9

-- the first vector that a program may trap to
abbrev pub first_user_vector : ℕ
first_user_vector = 128

-- a word of special function unit 1 to 7: 114 for the first, then the even numbers from 116
abbrev pub unit_vector : ℕ → ℕ
unit_vector unit = if unit == 1 then 114 else 116 + 2 * (unit - 2)

-- the vectors that an instruction itself raises: 4 to 9, and those of the units, 114 and the even ones of 116 to 126
abbrev pub IsRaised : ℕ → Type 0
IsRaised vector =
    (misaligned ≤ vector) × (vector ≤ overflow) ⊎ (vector ≡ unit_vector 1)
    ⊎ (unit_vector 2 ≤ vector) × (vector ≤ unit_vector 7) × (vector % 2 ≡ 0)
