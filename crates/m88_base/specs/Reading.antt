-- A source that is read for the input of a program.
use Rattle.std.specs.Prelude.{ℕ, ◌≡◌, ◌≢◌, ◌+◌, ◌^◌, List, Option, Result, Err, OnOk}
use Rattle.m88_base.specs.Calls.{CallsWithin}
use Rattle.m88_base.specs.Causes.{Rose}
use Rattle.m88_base.specs.Outside.{TakesAtMost, TakesExactly}

-- the most bytes that an input may have: one mebibyte
abbrev pub most_input : ℕ
most_input = 2 ^ 20

-- a source is read, which may tell its bytes left, its calls and its faults: there were at most two calls more than an
-- input may have bytes; where a value comes of it there was no fault; the one error says that there was; the other that
-- the input is too long, and then one byte more was taken than it may have, and else at most as many as it may have
pub record ReadsSource {S T E : Type 0} (failed long : E) (left : S → Option (List ℕ)) (calls : S → Option ℕ)
    (faults : S → ℕ) (old new : S) (result : Result T E) : Type 0 where
  pub within : CallsWithin (most_input + 2) (calls old) (calls new)
  pub clean : OnOk result (faults new ≡ faults old)
  pub fault : result ≡ Err failed → Rose (faults old) (faults new)
  pub too_long : result ≡ Err long → TakesExactly (left old) (left new) (most_input + 1)
  pub not_too_long : result ≢ Err long → TakesAtMost (left old) (left new) most_input
