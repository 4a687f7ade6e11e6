-- r0 is in no set of registers.
use Rattle.std.specs.Prelude.{ℕ, ◌≡◌, ◌==◌, bit_or}
use Rattle.std.specs.Int.{bit_at}
use Rattle.std.proofs.Common.{refl, sym}
use Rattle.std.proofs.lemmas.Bool.{eqb-false}
use Rattle.std.proofs.lemmas.Nat.Bits.{bit_at-pow_other, bit_at_or}
use Rattle.m88_base.specs.declared.reg.Reg.{Reg}
use Rattle.m88_base.specs.Reg.{number_of}
use Rattle.m88_isa.proofs.Alone.{by_test}
use Rattle.m88_isa.specs.Operands.{after_d_of, bit_of, d_of, pair_of, s1_of, s2_of, second_written_by, uses_of, writes_of, written_by}
use Rattle.m88_isa.specs.declared.instr.Instr.{Instr}

one_lacks_r0 : (r : Reg) → bit_at (bit_of r) 0 ≡ 0
one_lacks_r0 r = by_test (number_of r == 0)
    (λ zero. rw zero refl)
    (λ not_zero. rw not_zero (bit_at-pow_other (number_of r) 0 (λ e. eqb-false (number_of r) 0 not_zero (sym e))))

union_lacks_r0 : (a b : ℕ) → bit_at a 0 ≡ 0 → bit_at b 0 ≡ 0 → bit_at (bit_or a b) 0 ≡ 0
union_lacks_r0 a b in_a in_b = rw (bit_at_or a b 0) (rw (in_a, in_b) refl)

pair_lacks_r0 : (a b : Reg) → bit_at (pair_of a b) 0 ≡ 0
pair_lacks_r0 a b = union_lacks_r0 (bit_of a) (bit_of b) (one_lacks_r0 a) (one_lacks_r0 b)

pub uses_lack_r0 : (i : Instr) → bit_at (uses_of i) 0 ≡ 0
unfolding uses_of
uses_lack_r0 i =
    union_lacks_r0 (pair_of (s1_of i) (s2_of i)) (pair_of (d_of i) (after_d_of i))
    (pair_lacks_r0 (s1_of i) (s2_of i)) (pair_lacks_r0 (d_of i) (after_d_of i))

pub writes_lack_r0 : (i : Instr) → bit_at (writes_of i) 0 ≡ 0
unfolding writes_of
writes_lack_r0 i = pair_lacks_r0 (written_by i) (second_written_by i)
