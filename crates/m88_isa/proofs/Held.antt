-- What it says that nothing holds an instruction, and that something does.
use Rattle.std.specs.Prelude.{ℕ, zero, suc, Bool, true, false, List, [], Option, Some, None, IfSome, ◌≡◌, ◌≢◌, ◌<◌, ◌≤◌, ◌+◌, ◌==◌, ◌&&◌, ◌||◌, bit_or, nat_lt, slice_index}
use Rattle.std.proofs.Common.{arith, refl, sym, subst, ◌∙◌}
use Rattle.std.proofs.lemmas.Nat.Bits.{bit_at-lt, bit_at-pow_other, bit_at_or}
use Rattle.std.specs.Int.{bit_at}
use Rattle.std.proofs.lemmas.Bool.{eqb-true, eqb-false, ltb-true, ltb-false}
use Rattle.std.proofs.lemmas.Bool.Decides.{nat_tests}
use Rattle.m88_base.specs.declared.reg.Reg.{Reg}
use Rattle.m88_base.specs.Reg.{number_of}
use Rattle.m88_isa.proofs.Alone.{by_test, meaning_alone}
use Rattle.m88_isa.proofs.Turns.{TurnFits}
use Rattle.m88_isa.proofs.Late.{beyond_waits_not, never_zero, r0_waits_not, same_after_accesses}
use Rattle.m88_isa.specs.Bus.{Cells, after_accesses, waits_for}
use Rattle.m88_isa.specs.Effect.{meaning_of}
use Rattle.m88_isa.specs.Held.{busy_register, exceeds, first_from, held, involves}
use Rattle.m88_isa.specs.Machine.{Turn, changes, outputs, stops}
use Rattle.m88_isa.specs.Operands.{after_d_of, bit_of, d_of, pair_of, s1_of, s2_of, uses_of, writes_of}
use Rattle.m88_isa.specs.declared.instr.Instr.{Instr}
use Rattle.m88_isa.specs.declared.planned.Access.{Access}

-- where the least that passes is none, none passes
pub none_from : (start count : ℕ) (test : ℕ → Bool) (k : ℕ) → first_from start count test ≡ None → start ≤ k → k < start + count →
    test k ≡ false
unfolding first_from
none_from start zero test k h low high = absurd (omega arith)
none_from start (suc count) test k h low high = by_test (test start)
    (λ passes. absurd (let found = rw passes at h in cc))
    (λ fails. by_test (k == start)
    (λ here. rw (eqb-true k start here) fails)
    (λ there. let other : k ≢ start = eqb-false k start there in
    none_from (start + 1) count test k (rw fails at h) (omega arith) (omega arith)))

-- the least that passes is one of them, and passes
pub record IsFirst (start count : ℕ) (test : ℕ → Bool) (k : ℕ) : Type 0 where
  pub low : start ≤ k
  pub high : k < start + count
  pub passes : test k ≡ true

pub some_from : (start count : ℕ) (test : ℕ → Bool) (k : ℕ) → first_from start count test ≡ Some k → IsFirst start count test k
unfolding first_from
some_from start zero test k h = absurd cc
some_from start (suc count) test k h = by_test (test start)
    (λ passes. let here : start ≡ k = let found = rw passes at h in cc in
    record { low = omega (arith, here); high = omega (arith, here); passes = subst (λ n. test n ≡ true) here passes })
    (λ fails. let later = some_from (start + 1) count test k (rw fails at h) in
    let low = later.low in
    let high = later.high in
    record { low = omega arith; high = omega arith; passes = later.passes })

not_both : (a b : Bool) → a ≡ true → (a && b) ≡ false → b ≡ false
not_both true b e h = h
not_both false b e h = absurd cc

-- where no register is busy, none that the instruction uses or writes waits
pub none_busy : (i : Option Instr) (pending : List Access) (r : ℕ) → busy_register i pending ≡ None → involves i r ≡ true →
    waits_for pending r ≡ false
unfolding busy_register
none_busy i pending r h involved = by_test (r == 0)
    (λ is_zero. rw (eqb-true r 0 is_zero) (r0_waits_not pending))
    (λ there. by_test (nat_lt r 32)
    (λ below. let other : r ≢ 0 = eqb-false r 0 there in
    let low : r < 32 = ltb-true r 32 below in
    not_both (involves i r) (waits_for pending r) involved
    (none_from 1 31 (λ register. involves i register && waits_for pending register) r h (omega arith) (omega arith)))
    (λ beyond. beyond_waits_not pending r (let high = ltb-false r 32 beyond in omega arith)))

-- where none passes, the least that passes is none
pub none_passes : (start count : ℕ) (test : ℕ → Bool) → ((k : ℕ) → test k ≡ false) → first_from start count test ≡ None
unfolding first_from
none_passes start zero test h = refl
none_passes start (suc count) test h = rw (h start) (none_passes (start + 1) count test h)

-- two tests don't both hold where the second fails, and where both hold, each does
pub no_second : (a : Bool) → (a && false) ≡ false
no_second true = refl
no_second false = refl

pub first_of : (a b : Bool) → (a && b) ≡ true → a ≡ true
first_of true b h = refl
first_of false b h = h

pub second_of : (a b : Bool) → (a && b) ≡ true → b ≡ true
second_of true b h = h
second_of false b h = absurd cc

none_busy_alone : (i : Option Instr) → busy_register i [] ≡ None
unfolding busy_register waits_for
none_busy_alone i = none_passes 1 31 (λ register. involves i register && false) (λ k. no_second (involves i k))

never_exceeds : (turn : Turn) → TurnFits turn → exceeds turn 0 ≡ false
never_exceeds (changes change) fits = let short = fits.short in grind (arith, nat_tests)
never_exceeds (outputs byte) short = refl
never_exceeds (stops stop) short = refl

-- nothing holds an instruction while nothing is pending
pub nothing_held : (i : Option Instr) (turn : Turn) → TurnFits turn → held i turn [] ≡ None
nothing_held i turn short = rw (none_busy_alone i, never_exceeds turn short) refl

or_last : (a : Bool) → (a || true) ≡ true
or_last true = refl
or_last false = refl

-- what an instruction uses or writes, it involves
pub uses_it : (i : Instr) (r : ℕ) → bit_at (uses_of i) r ≡ 1 → involves (Some i) r ≡ true
uses_it i r h = rw h refl

pub writes_it : (i : Instr) (r : ℕ) → bit_at (writes_of i) r ≡ 1 → involves (Some i) r ≡ true
writes_it i r h = rw h (or_last (bit_at (uses_of i) r == 1))

-- where nothing holds an instruction, what it writes at once doesn't wait
pub written_waits_not : (i : Instr) (pending : List Access) (written : Option (Reg × ℕ)) → busy_register (Some i) pending ≡ None →
    IfSome written (λ w. bit_at (writes_of i) (number_of w.0) ≡ 1) →
    IfSome written (λ w. waits_for pending (number_of w.0) ≡ false)
written_waits_not i pending None free h = tt
written_waits_not i pending (Some w) free h = none_busy (Some i) pending (number_of w.0) free (writes_it i (number_of w.0) h)

-- a register that is used is one of the 32
one_below : (x : Reg) (r : ℕ) → bit_at (bit_of x) r ≡ 1 → r < 32
one_below x r h = by_test (number_of x == r)
    (λ same. let e : number_of x ≡ r = eqb-true (number_of x) r same in omega (arith, e))
    (λ other. by_test (number_of x == 0)
    (λ is_zero. absurd (let no = rw is_zero at h in omega (arith, no)))
    (λ there. absurd (let apart : r ≢ number_of x = (λ e. eqb-false (number_of x) r other (sym e)) in
    let no = bit_at-pow_other (number_of x) r apart in
    let yes = rw there at h in omega (arith, no, yes))))

union_below : (a b r : ℕ) → (bit_at a r ≡ 1 → r < 32) → (bit_at b r ≡ 1 → r < 32) → bit_at (bit_or a b) r ≡ 1 → r < 32
union_below a b r in_a in_b h = by_test (bit_at a r == 1)
    (λ first. in_a (eqb-true (bit_at a r) 1 first))
    (λ other. by_test (bit_at b r == 1)
    (λ second. in_b (eqb-true (bit_at b r) 1 second))
    (λ neither. absurd (let none = rw (bit_at_or a b r) at h in
    let not_a : bit_at a r ≢ 1 = eqb-false (bit_at a r) 1 other in
    let not_b : bit_at b r ≢ 1 = eqb-false (bit_at b r) 1 neither in
    omega (arith, none, not_a, not_b, bit_at-lt a r, bit_at-lt b r))))

pub uses_below : (i : Instr) (r : ℕ) → bit_at (uses_of i) r ≡ 1 → r < 32
unfolding uses_of
uses_below i r h =
    union_below (pair_of (s1_of i) (s2_of i)) (pair_of (d_of i) (after_d_of i)) r
    (union_below (bit_of (s1_of i)) (bit_of (s2_of i)) r (one_below (s1_of i) r) (one_below (s2_of i) r))
    (union_below (bit_of (d_of i)) (bit_of (after_d_of i)) r (one_below (d_of i) r) (one_below (after_d_of i) r))
    h

-- an instruction that nothing holds means after the pending accesses what it means of values that are right where nothing
-- waits
pub meaning_seen : (i : Instr) (pending : List Access) (c : Cells) (shown : List ℕ) (carry mxm : Bool) (pc next : ℕ) →
    busy_register (Some i) pending ≡ None →
    ((r : ℕ) → r < 32 → waits_for pending r ≡ false → slice_index shown r ≡ slice_index c.regs r) →
    meaning_of i shown carry mxm pc next ≡ meaning_of i (after_accesses pending c).regs carry mxm pc next
meaning_seen i pending c shown carry mxm pc next free right =
    meaning_alone i (after_accesses pending c).regs shown carry mxm pc next
    (λ r used. let ready : waits_for pending r ≡ false = none_busy (Some i) pending r free (uses_it i r used) in
    by_test (r == 0)
    (λ is_zero. absurd (never_zero i r is_zero used))
    (λ there. same_after_accesses pending c r there ready ∙ sym (right r (uses_below i r used) ready)))
