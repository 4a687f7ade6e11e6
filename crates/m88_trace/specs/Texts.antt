-- A text against the lines that there are, each with its end.
use Rattle.std.specs.Prelude.{ℕ, zero, suc, true, List, [], ◌++◌, Option, Some, None, ◌≡◌, ◌≢◌, ◌<◌, ◌+◌, is_some, unwrap_or}
use Rattle.m88_trace.specs.declared.fault.TraceFault.{TraceFault}
use Rattle.m88_trace.specs.declared.fault.TraceFault.TheVariants.{Differs, Memory}

-- the text of the first so many lines, as far as there are
unfoldable pub text_of_first : (ℕ → Option (List ℕ)) → ℕ → List ℕ
text_of_first line zero = []
text_of_first line (suc n) = text_of_first line n ++ unwrap_or (line n) []

-- there are so many lines at least
abbrev pub HasLines : (ℕ → Option (List ℕ)) → ℕ → Type 0
HasLines line n = (k : ℕ) → k < n → is_some (line k) ≡ true

-- a text is the first so many lines
pub record IsText (line : ℕ → Option (List ℕ)) (text : List ℕ) (n : ℕ) : Type 0 where
  pub there : HasLines line n
  pub whole : text ≡ text_of_first line n

-- what is left doesn't begin with the next line, or there is none
abbrev pub BeginsOtherwise : Option (List ℕ) → List ℕ → Type 0
BeginsOtherwise None rest = Unit {0}
BeginsOtherwise (Some bytes) rest = (more : List ℕ) → rest ≢ bytes ++ more

-- behind so many lines something is left that doesn't begin with the next
pub record DiffersBehind (line : ℕ → Option (List ℕ)) (text : List ℕ) (n : ℕ) : Type 0 where
  pub there : HasLines line n
  pub rest : List ℕ
  pub whole : text ≡ text_of_first line n ++ rest
  pub some : rest ≢ []
  pub otherwise : BeginsOtherwise (line n) rest

-- why a text isn't the first of some lines: it differs at a line, counted from 1. Want of memory says nothing of it.
abbrev pub FaultOf : (ℕ → Option (List ℕ)) → List ℕ → TraceFault → Type 0
FaultOf line text (Differs number) = (before : ℕ) × (number ≡ before + 1) × DiffersBehind line text before
FaultOf line text Memory = Unit {0}
