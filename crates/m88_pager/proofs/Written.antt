-- How often a page was put into a store, and how many are counted that went out.
use Rattle.std.specs.Prelude.{ℕ, Option, Some, None, ◌≡◌, ◌+◌, option_map}
use Rattle.std.proofs.Common.{arith, refl, ap}
use Rattle.m88_pager.specs.Inside.Calls.{PutsOut}
use Rattle.m88_pager.specs.Store.{WritesMore}

-- nothing is put in
pub none_put : (outs : ℕ) (writes writes' : Option ℕ) → writes' ≡ writes → PutsOut outs outs writes writes'
none_put outs writes writes' same = ap (option_map (λ (n : ℕ). n + outs)) same

-- a page is
pub one_put : (outs : ℕ) (writes writes' : Option ℕ) → WritesMore 1 writes writes' → PutsOut outs (outs + 1) writes writes'
one_put outs None None more = refl
one_put outs None (Some m) more = absurd cc
one_put outs (Some n) None more = absurd cc
one_put outs (Some n) (Some m) more = let e : m ≡ n + 1 = cc in ap Some (omega (arith, e))

-- some are, and then others
pub then_put : (first second third : ℕ) (before between now : Option ℕ) → PutsOut first second before between →
    PutsOut second third between now → PutsOut first third before now
then_put first second third None None None one two = refl
then_put first second third None None (Some z) one two = absurd cc
then_put first second third None (Some y) now one two = absurd cc
then_put first second third (Some x) None now one two = absurd cc
then_put first second third (Some x) (Some y) None one two = absurd cc
then_put first second third (Some x) (Some y) (Some z) one two =
    let e : y + first ≡ x + second = cc in
    let f : z + second ≡ y + third = cc in
    ap Some (omega (arith, e, f))

-- none were before
pub all_put : (outs : ℕ) (writes writes' : Option ℕ) → PutsOut 0 outs writes writes' → WritesMore outs writes writes'
all_put outs None None put = refl
all_put outs None (Some m) put = absurd cc
all_put outs (Some n) None put = absurd cc
all_put outs (Some n) (Some m) put = let e : m + 0 ≡ n + outs = cc in ap Some (omega (arith, e))
