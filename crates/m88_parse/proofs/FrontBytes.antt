-- The bytes that a front takes.
use Rattle.std.proofs.Common.{◌≡◌, ℕ, suc, ◌+◌, ◌-◌, ◌<◌, List, ◌∷◌, length, take, ap, ◌∙◌, arith, length-take}
use Rattle.std.proofs.lemmas.List.{length-take-le, take-take, take_min}
use Rattle.m88_parse.specs.Inside.Tokens.{between}

-- a run at the front is as many of the bytes as it has
pub run_taken : (n : ℕ) (bs : List ℕ) → take (length (take n bs)) bs ≡ take n bs
run_taken n bs = ap (λ (m : ℕ). take m bs) (length-take n bs) ∙ take_min n bs

-- what stands between two quotes, where the second one is there
pub between_quotes : (q len : ℕ) (bs : List ℕ) → len < length bs → between (take (len + 2) (q ∷ bs)) ≡ take len bs
between_quotes q len bs h =
    let text = take (len + 1) bs in
    let e : len + 2 ≡ suc (len + 1) = omega arith in
    let s : length (q ∷ text) - 2 ≡ len = omega (arith, length-take-le (len + 1) bs (omega arith)) in
    ap (λ (n : ℕ). between (take n (q ∷ bs))) e
    ∙ ap (λ (n : ℕ). take n text) s
    ∙ take-take len (len + 1) bs (omega arith)
