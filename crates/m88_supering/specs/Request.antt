-- The words of the program: `fault STEPS`.
use Rattle.std.specs.Prelude.{ℕ, ◌≤◌, List, [], ◌∷◌, Option, None, bytes_eq, codes, length, nat_le, option_map, if◌then◌else◌}
use Rattle.m88_base.specs.Numerals.{number_in}
use Rattle.m88_supering.specs.declared.request.Request.{Request}
use Rattle.m88_supering.specs.declared.request.Request.TheVariants.{Fault}

-- the most instructions of a handler that may be allowed
abbrev pub most_steps : ℕ
most_steps = 10000000

-- how many instructions a word allows: one to eight decimal digits, which may begin with zeros
abbrev pub steps_in : List ℕ → Option ℕ
steps_in word = if nat_le (length word) 8 then number_in 10 most_steps word else None

-- what words ask for, if they ask for anything: one entry of a handler by a fault
unfoldable pub asked_for : List (List ℕ) → Option Request
asked_for (form ∷ steps ∷ []) = if bytes_eq form (codes "fault") then option_map Fault (steps_in steps) else None
asked_for _ = None

-- it can be given: no more instructions are allowed than may be
abbrev pub IsFit : Request → Type 0
IsFit (Fault steps) = steps ≤ most_steps
