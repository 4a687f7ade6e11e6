-- No register waits where none is named and where nothing is pending.
use Rattle.std.specs.Prelude.{ℕ, zero, suc, [], ◌≡◌, ◌==◌}
use Rattle.std.proofs.Common.{refl, ap}
use Rattle.std.proofs.Math.Path.{fun_ext}
use Rattle.std.proofs.lemmas.Nat.Bits.{bit_at-zero}
use Rattle.m88_base.specs.RegisterSet.{registers_in}
use Rattle.m88_isa.specs.Bus.{waits_for}
use Rattle.m88_scoreboard.specs.Registers.{none_waits}

-- a word without bits names no register
pub no_members : registers_in 0 ≡ none_waits
no_members = fun_ext by_register
  where
    by_register : (r : ℕ) → registers_in 0 r ≡ none_waits r
    by_register zero = refl
    by_register (suc r) = ap (λ n. n == 1) (bit_at-zero (suc r))

-- nothing waits where nothing is pending
pub none_wait_for_none : none_waits ≡ waits_for []
unfolding waits_for
none_wait_for_none = refl
