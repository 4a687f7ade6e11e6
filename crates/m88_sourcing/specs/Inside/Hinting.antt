-- How hints are read of words.
use Rattle.std.specs.Prelude.{◌≡◌, ℕ, List, Option, IfSome, MatchOption}
use Rattle.m88_base.specs.Words.{texts}
use Rattle.m88_sourcing.specs.Hints.{BeginWith}
use Rattle.m88_sourcing.specs.Places.{AreWithin}
use Rattle.m88_sourcing.specs.declared.hint.Hint.{Hint}
use Rattle.m88_sourcing.specs.declared.hint.Hint.TheVariants.{Enters, Fixes, Starts}
use Rattle.m88_sourcing.specs.declared.hint.Leading.{Leading}

-- no address of a hint is past the last one
abbrev pub IsWithin : Hint → Type 0
IsWithin (Enters places) = AreWithin places
IsWithin (Fixes places) = AreWithin places
IsWithin (Starts at) = Unit {0}

-- the hint with which words begin is read, and what stands behind it, or none where they begin with none
pub record ReadsHint (words : List (List ℕ)) (result : Option Leading) : Type 0 where
  pub found : IfSome result (λ x. BeginWith words x.hint (texts x.rest.now))
  pub only : (hint : Hint) (others : List (List ℕ)) → BeginWith words hint others
      → MatchOption result ⊥ (λ x. (x.hint ≡ hint) × (texts x.rest.now ≡ others))
  pub within : IfSome result (λ x. IsWithin x.hint)
