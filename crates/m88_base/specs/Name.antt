-- Names (assembly language: tokens).
use Rattle.std.specs.Prelude.{ℕ, ◌<◌, ◌==◌, ◌||◌, Bool, List, [], ◌∷◌, length, All, IsTrue}
use Rattle.std.specs.Char.{is_ascii_alphabetic, is_ascii_digit}

-- the byte may begin a name: it is a letter, `_`, `.` or `$`
abbrev pub begins_name : ℕ → Bool
begins_name b = is_ascii_alphabetic b || b == 95 || b == 46 || b == 36

-- the byte may stand further on in a name: it may begin one, or is a digit
abbrev pub continues_name : ℕ → Bool
continues_name b = begins_name b || is_ascii_digit b

-- the bytes are one name, 1 to 64 bytes
abbrev pub IsName : List ℕ → Type 0
IsName [] = ⊥
IsName (first ∷ rest) = IsTrue (begins_name first) × All (λ b. IsTrue (continues_name b)) rest × (length rest < 64)
