-- Calls that are counted one after another.
use Rattle.std.proofs.Common.{ℕ, ◌+◌, ◌≤◌, Option, Some, None, arith, inl, inr, subst, sym}
use Rattle.m88_base.specs.Calls.{CallsWithin, CountsCall}

-- no call was made
pub calls_none : (most : ℕ) (a : Option ℕ) → CallsWithin most a a
calls_none most None = tt
calls_none most (Some n) = (omega arith, omega arith)

-- one call more
pub calls_more : (n m : ℕ) (a b c : Option ℕ) → n + 1 ≤ m → CallsWithin n a b → CountsCall b c
    → CallsWithin m a c
calls_more n m None b c h w k = tt
calls_more n m (Some x) None c h w k = absurd w
calls_more n m (Some x) (Some y) c h w (inl e) =
    subst (CallsWithin m (Some x)) (sym e) (omega (arith, w.0), omega (arith, w.1, h))
calls_more n m (Some x) (Some y) c h w (inr e) =
    subst (CallsWithin m (Some x)) (sym e.1) (omega (arith, w.0), omega (arith, w.1, h))
