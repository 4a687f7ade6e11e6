-- Two registers of the same number are the same register.
use Rattle.std.specs.Prelude.{ℕ, ◌≡◌, ◌<◌}
use Rattle.std.specs.Coded.{le_prop}
use mathlib.Core.Path.{ap, subst}
use Rattle.m88_base.specs.declared.reg.Reg.{Reg}
use Rattle.m88_base.specs.Reg.{number_of}

pub same_reg : (a b : Reg) → number_of a ≡ number_of b → a ≡ b
same_reg a b e = subst (λ (m : ℕ). (k : m < 32) → a ≡ record { n = m; in_range = k }) e
    (λ k. ap (λ (h : a.n < 32). record { n = a.n; in_range = h }) (le_prop a.in_range k)) b.in_range
