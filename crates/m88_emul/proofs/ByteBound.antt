-- A byte of memory is one.
use Rattle.std.specs.Prelude.{ℕ, false, ◌≡◌, ◌<◌, ◌-◌, ◌%◌, ◌^◌, ◌==◌}
use Rattle.std.proofs.Common.{arith, sym, subst}
use Rattle.std.proofs.lemmas.Bool.{eqb-false, eqb-true}
use Rattle.m88_isa.proofs.Laws.{by_test}
use Rattle.m88_isa.specs.Lanes.{datum_of, enable_of}

at_offset : (word offset literal : ℕ) → offset ≡ literal → datum_of (2 ^ (3 - literal)) false word < 2 ^ 8 →
    datum_of (2 ^ (3 - offset)) false word < 2 ^ 8
at_offset word offset literal e h = subst (λ (n : ℕ). datum_of (2 ^ (3 - n)) false word < 2 ^ 8) (sym e) h

pub byte_small : (word place : ℕ) → datum_of (enable_of place 1) false word < 2 ^ 8
byte_small word place = by_test (place % 4 == 0)
    (λ t. at_offset word (place % 4) 0 (eqb-true (place % 4) 0 t) (omega arith))
    (λ f. by_test (place % 4 == 1)
    (λ t. at_offset word (place % 4) 1 (eqb-true (place % 4) 1 t) (omega arith))
    (λ g. by_test (place % 4 == 2)
    (λ t. at_offset word (place % 4) 2 (eqb-true (place % 4) 2 t) (omega arith))
    (λ h.
    let not0 = eqb-false (place % 4) 0 f in
    let not1 = eqb-false (place % 4) 1 g in
    let not2 = eqb-false (place % 4) 2 h in
    let last : place % 4 ≡ 3 = omega (arith, not0, not1, not2) in
    at_offset word (place % 4) 3 last (omega arith))))
