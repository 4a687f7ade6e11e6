-- The least number that passes a test, a number at a time.
use Rattle.std.specs.Prelude.{ℕ, zero, suc, Bool, true, false, Some, None, ◌≡◌, ◌≢◌, ◌<◌, ◌≤◌, ◌+◌, ◌-◌}
use Rattle.std.proofs.Common.{arith, refl, sym, ap, ◌∙◌}
use Rattle.std.specs.Prelude.{List, min, max, ◌==◌, ◌&&◌, ◌||◌, bit_and, bit_or}
use Rattle.std.specs.Int.{bit_at}
use Rattle.std.proofs.lemmas.Bool.{eqb-false}
use Rattle.std.proofs.lemmas.Nat.Bits.{bit_at_and, bit_at_or, bit_at-lt, bit_at-zero}
use Rattle.m88_base.specs.RegisterSet.{registers_in}
use Rattle.m88_isa.proofs.Laws.{by_test, no_second, none_passes}
use Rattle.m88_isa.specs.Bus.{waits_for}
use Rattle.m88_isa.specs.Held.{busy_register, first_from, involves}
use Rattle.m88_isa.specs.Operands.{uses_of, writes_of}
use Rattle.m88_isa.specs.declared.instr.Instr.{Instr}
use Rattle.m88_isa.specs.declared.planned.Access.{Access}

first_passes : (n count : ℕ) (p : ℕ → Bool) → p n ≡ true → first_from n (suc count) p ≡ Some n
unfolding first_from
first_passes n count p h = rw h refl

first_fails : (n count : ℕ) (p : ℕ → Bool) → p n ≡ false → first_from n (suc count) p ≡ first_from (n + 1) count p
unfolding first_from
first_fails n count p h = rw h refl

first_none : (n : ℕ) (p : ℕ → Bool) → first_from n zero p ≡ None
unfolding first_from
first_none n p = refl

one_more : (n before : ℕ) → n < before → before - n ≡ suc (before - (n + 1))
one_more n before h = omega (arith, h)

pub here_first : (n before : ℕ) (p : ℕ → Bool) → n < before → p n ≡ true → first_from n (before - n) p ≡ Some n
here_first n before p low h = ap (λ k. first_from n k p) (one_more n before low) ∙ first_passes n (before - (n + 1)) p h

pub not_here : (n before : ℕ) (p : ℕ → Bool) → n < before → p n ≡ false → first_from (n + 1) (before - (n + 1)) p ≡ first_from n (before - n) p
not_here n before p low h =
    sym (first_fails n (before - (n + 1)) p h) ∙ sym (ap (λ k. first_from n k p) (one_more n before low))

pub nowhere : (n before : ℕ) (p : ℕ → Bool) → before ≤ n → first_from n (before - n) p ≡ None
nowhere n before p high = ap (λ k. first_from n k p) (let none : before - n ≡ 0 = omega (arith, high) in none) ∙ first_none n p

-- where those below a number fail, it is as if they weren't tried
passed_over : (n : ℕ) (p : ℕ → Bool) → n < 32 → ((k : ℕ) → k < n → p k ≡ false) → first_from n (32 - n) p ≡ first_from 0 32 p
passed_over zero p low fails = refl
passed_over (suc n) p low fails =
    let less : n < 32 = omega (arith, low) in
    let next : suc n ≡ n + 1 = omega arith in
    ap (λ k. first_from k (32 - k) p) next
    ∙ not_here n 32 p less (fails n (omega arith)) ∙ passed_over n p less (λ k under. fails k (omega (arith, under)))

-- of two words without a bit in common, the one has none that the other has
apart_bits : (u w b : ℕ) → min b (max u w) ≡ 0 → ((u == 1 || w == 1) && (b == 1)) ≡ false
apart_bits u w zero h = no_second (u == 1 || w == 1)
apart_bits zero zero (suc b) h = refl
apart_bits (suc u) w (suc b) h = absurd (omega (arith, h))
apart_bits zero (suc w) (suc b) h = absurd (omega (arith, h))

-- of two words with a bit in common, one has one that the other has
shared_bits : (u w b : ℕ) → u < 2 → w < 2 → b < 2 → min b (max u w) ≡ 1 → ((u == 1 || w == 1) && (b == 1)) ≡ true
shared_bits u w b low_u low_w low_b h =
    let set : b ≡ 1 = omega (arith, h, low_u, low_w, low_b) in
    rw set (by_test (u == 1)
    (λ one. rw one refl)
    (λ none. let not_one : u ≢ 1 = eqb-false u 1 none in
    let other : w ≡ 1 = omega (arith, h, low_u, low_w, not_one) in
    rw (none, other) refl))

-- the bit that two words have in common, of which the second is that of the registers that an instruction touches
bit_in_common : (i : Instr) (waiting touched k : ℕ) → touched ≡ bit_or (uses_of i) (writes_of i)
    → bit_at (bit_and waiting touched) k ≡ min (bit_at waiting k) (max (bit_at (uses_of i) k) (bit_at (writes_of i) k))
bit_in_common i waiting touched k word =
    bit_at_and waiting touched k
    ∙ ap (λ n. min (bit_at waiting k) n) (ap (λ n. bit_at n k) word ∙ bit_at_or (uses_of i) (writes_of i) k)

-- a register whose bit they don't have in common isn't one that the instruction touches and that waits
apart_at : (i : Instr) (pending : List Access) (waiting touched k : ℕ) → registers_in waiting ≡ waits_for pending
    → touched ≡ bit_or (uses_of i) (writes_of i) → bit_at (bit_and waiting touched) k ≡ 0
    → (involves (Some i) k && waits_for pending k) ≡ false
apart_at i pending waiting touched zero names word apart = rw (← names) (no_second (involves (Some i) 0))
apart_at i pending waiting touched (suc k) names word apart =
    rw (← names) (apart_bits (bit_at (uses_of i) (suc k)) (bit_at (writes_of i) (suc k)) (bit_at waiting (suc k))
    (sym (bit_in_common i waiting touched (suc k) word) ∙ apart))

-- and one whose bit they have in common is
shared_at : (i : Instr) (pending : List Access) (waiting touched k : ℕ) → registers_in waiting ≡ waits_for pending
    → touched ≡ bit_or (uses_of i) (writes_of i) → bit_at waiting 0 ≡ 0 → bit_at (bit_and waiting touched) k ≡ 1
    → (involves (Some i) k && waits_for pending k) ≡ true
shared_at i pending waiting touched zero names word none set =
    let common = bit_in_common i waiting touched 0 word in
    absurd (omega (arith, common, none, set))
shared_at i pending waiting touched (suc k) names word none set =
    rw (← names) (shared_bits (bit_at (uses_of i) (suc k)) (bit_at (writes_of i) (suc k)) (bit_at waiting (suc k))
    (bit_at-lt (uses_of i) (suc k)) (bit_at-lt (writes_of i) (suc k)) (bit_at-lt waiting (suc k))
    (sym (bit_in_common i waiting touched (suc k) word) ∙ set))

-- no register waits that an instruction uses or writes, where the words have no bit in common
pub none_waits_for : (i : Instr) (pending : List Access) (waiting touched : ℕ) → registers_in waiting ≡ waits_for pending
    → touched ≡ bit_or (uses_of i) (writes_of i) → bit_and waiting touched ≡ 0 → busy_register (Some i) pending ≡ None
unfolding busy_register
none_waits_for i pending waiting touched names word apart =
    none_passes 1 31 (λ register. involves (Some i) register && waits_for pending register)
    (λ k. apart_at i pending waiting touched k names word (ap (λ n. bit_at n k) apart ∙ bit_at-zero k))

-- else the lowest bit that they have in common is that of the least register that waits
pub least_waits : (i : Instr) (pending : List Access) (waiting touched n : ℕ) → registers_in waiting ≡ waits_for pending
    → touched ≡ bit_or (uses_of i) (writes_of i) → bit_at waiting 0 ≡ 0 → n < 32
    → bit_at (bit_and waiting touched) n ≡ 1 → ((k : ℕ) → k < n → bit_at (bit_and waiting touched) k ≡ 0)
    → busy_register (Some i) pending ≡ Some n
unfolding busy_register
least_waits i pending waiting touched n names word none low set below =
    let test : ℕ → Bool = λ register. involves (Some i) register && waits_for pending register in
    sym (first_fails 0 31 test (rw (← names) (no_second (involves (Some i) 0))))
    ∙ sym (passed_over n test low (λ k under. apart_at i pending waiting touched k names word (below k under)))
    ∙ here_first n 32 test low (shared_at i pending waiting touched n names word none set)
