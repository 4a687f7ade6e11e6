-- Numbers that stop growing at a limit.
use Rattle.std.proofs.Common.{◌≡◌, ℕ, ◌+◌, ◌*◌, ◌<◌, ◌≤◌, min, ◌∙◌, ap, arith, inl, inr}
use Rattle.std.proofs.Math.Nat.{mul-le-mul_left}
use Rattle.std.proofs.lemmas.Bool.{cases_lt}

at_least : (v base limit : ℕ) → 0 < base → limit ≤ v → limit ≤ v * base
at_least v base limit b h = let k : v * 1 ≤ v * base = mul-le-mul_left v (omega arith) in omega (arith, k)

pub capped : (v base d limit : ℕ) → 0 < base → min (min v limit * base + d) limit ≡ min (v * base + d) limit
capped v base d limit b =
    elim (cases_lt v limit) [
      | inl h ↦ let e : min v limit ≡ v = omega arith in ap (λ (n : ℕ). min (n * base + d) limit) e
      | inr h ↦
          let e : min v limit ≡ limit = omega arith in
          let k : limit ≤ v * base = at_least v base limit b h in
          let l : limit ≤ limit * base = at_least limit base limit b (omega arith) in
          let m : min (limit * base + d) limit ≡ min (v * base + d) limit = omega (arith, k, l) in
          ap (λ (n : ℕ). min (n * base + d) limit) e ∙ m
    ]
