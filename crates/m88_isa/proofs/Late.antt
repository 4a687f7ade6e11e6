-- A value that arrives late: an instruction that a pending load doesn't concern means the same before and after it, and
-- what it changes can be changed first.
use Rattle.std.specs.Prelude.{ℕ, Bool, true, false, List, [], ◌∷◌, ◌++◌, Option, Some, None, IfSome, ◌≡◌, ◌<◌, ◌≤◌, ◌==◌, ◌||◌, slice_index}
use Rattle.std.specs.Int.{bit_at}
use Rattle.std.proofs.Common.{arith, refl, sym, ap, ap₂, ◌∙◌, subst, get_or-set_other}
use Rattle.std.proofs.lemmas.Bool.{eqb-true, eqb-false}
use Rattle.std.proofs.lemmas.Bool.Decides.{nat_tests}
use Rattle.std.proofs.lemmas.List.{set_comm}
use Rattle.m88_base.specs.declared.reg.Reg.{Reg}
use Rattle.m88_base.specs.Reg.{number_of, with_register}
use Rattle.m88_isa.proofs.Alone.{by_test}
use Rattle.m88_isa.proofs.Sets.{uses_lack_r0}
use Rattle.m88_isa.specs.Bus.{Cells, after_access, after_accesses, loaded, loads, waits_for}
use Rattle.m88_isa.specs.Effect.{Change}
use Rattle.m88_isa.specs.History.{Completed, cells_after, change_accesses}
use Rattle.m88_isa.specs.Machine.{with_written}
use Rattle.m88_isa.specs.Operands.{uses_of}
use Rattle.m88_isa.specs.declared.instr.Instr.{Instr}
use Rattle.m88_isa.specs.declared.planned.Access.{Access}

-- accesses one after the other
pub accesses_append : (xs ys : List Access) (c : Cells) → after_accesses (xs ++ ys) c ≡ after_accesses ys (after_accesses xs c)
unfolding after_accesses
accesses_append [] ys c = refl
accesses_append (x ∷ xs) ys c = accesses_append xs ys (after_access x c)

-- neither of two tests holds where not one of them does
neither_first : (a b : Bool) → (a || b) ≡ false → a ≡ false
neither_first true b h = h
neither_first false b h = refl

neither_second : (a b : Bool) → (a || b) ≡ false → b ≡ false
neither_second true b h = absurd cc
neither_second false b h = h

pub head_waits_not : (x : Access) (xs : List Access) (r : ℕ) → waits_for (x ∷ xs) r ≡ false → loads x r ≡ false
unfolding waits_for
head_waits_not x xs r h = neither_first (loads x r) (waits_for xs r) h

pub tail_waits_not : (x : Access) (xs : List Access) (r : ℕ) → waits_for (x ∷ xs) r ≡ false → waits_for xs r ≡ false
unfolding waits_for
tail_waits_not x xs r h = neither_second (loads x r) (waits_for xs r) h

-- r0 never waits
pub r0_waits_not : (xs : List Access) → waits_for xs 0 ≡ false
unfolding waits_for
r0_waits_not [] = refl
r0_waits_not (x ∷ xs) = by_test x.write
    (λ write. rw write (r0_waits_not xs))
    (λ read. rw read (r0_waits_not xs))

-- a load doesn't concern a register: it loads r0, or another
other_register : (x : Access) (r : ℕ) → x.write ≡ false → (r == 0) ≡ false → loads x r ≡ false →
    (number_of x.reg == r) ≡ false
other_register x r read not_zero h = rw (read, not_zero) at h

-- two writes of registers in either order, where they aren't the same
swap_registers : (a b : Reg) (x y : ℕ) (regs : List ℕ) →
    ((number_of b == 0) ≡ false → (number_of a == number_of b) ≡ false) →
    with_register a x (with_register b y regs) ≡ with_register b y (with_register a x regs)
swap_registers a b x y regs apart = by_test (number_of a == 0)
    (λ a_zero. rw a_zero refl)
    (λ a_there. by_test (number_of b == 0)
    (λ b_zero. rw (a_there, b_zero) refl)
    (λ b_there. rw (a_there, b_there)
    (set_comm regs (number_of b) (number_of a) y x
    (λ e. eqb-false (number_of a) (number_of b) (apart b_there) (sym e)))))

-- one register of the cells is written
abbrev pub with_cell : Reg → ℕ → Cells → Cells
with_cell d value c = record { regs = with_register d value c.regs; bus = c.bus }

late_access : (x : Access) (d : Reg) (value : ℕ) (c : Cells) →
    loads x (number_of d) ≡ false →
    after_access x (with_cell d value c) ≡ with_cell d value (after_access x c)
unfolding loaded
late_access x d value c h = by_test x.write
    (λ write. rw write refl)
    (λ read. rw read (ap (λ regs. record { regs = regs; bus = c.bus })
    (swap_registers x.reg d (loaded x c.bus) value c.regs
    (λ there. other_register x (number_of d) read there h))))

-- a register that doesn't wait can be written before or after the pending accesses
pub late_accesses : (xs : List Access) (d : Reg) (value : ℕ) (c : Cells) →
    waits_for xs (number_of d) ≡ false →
    after_accesses xs (with_cell d value c) ≡ with_cell d value (after_accesses xs c)
unfolding after_accesses
late_accesses [] d value c h = refl
late_accesses (x ∷ xs) d value c h =
    ap (after_accesses xs) (late_access x d value c (head_waits_not x xs (number_of d) h))
    ∙ late_accesses xs d value (after_access x c) (tail_waits_not x xs (number_of d) h)

-- a register that doesn't wait has its value before and after
same_after_access : (x : Access) (c : Cells) (r : ℕ) → (r == 0) ≡ false → loads x r ≡ false →
    slice_index (after_access x c).regs r ≡ slice_index c.regs r
unfolding loaded
same_after_access x c r there h = by_test x.write
    (λ write. rw write refl)
    (λ read. by_test (number_of x.reg == 0)
    (λ zero. rw (read, zero) refl)
    (λ not_zero. rw (read, not_zero)
    (get_or-set_other c.regs (number_of x.reg) r (loaded x c.bus) 0
    (λ e. eqb-false (number_of x.reg) r (other_register x r read there h) (sym e)))))

pub same_after_accesses : (xs : List Access) (c : Cells) (r : ℕ) → (r == 0) ≡ false → waits_for xs r ≡ false →
    slice_index (after_accesses xs c).regs r ≡ slice_index c.regs r
unfolding after_accesses
same_after_accesses [] c r there h = refl
same_after_accesses (x ∷ xs) c r there h =
    same_after_accesses xs (after_access x c) r there (tail_waits_not x xs r h)
    ∙ same_after_access x c r there (head_waits_not x xs r h)

-- no instruction uses r0
pub never_zero : (i : Instr) (r : ℕ) → (r == 0) ≡ true → bit_at (uses_of i) r ≡ 1 → ⊥
never_zero i r is_zero used =
    let here : bit_at (uses_of i) 0 ≡ 1 = subst (λ k. bit_at (uses_of i) k ≡ 1) (eqb-true r 0 is_zero) used in
    let lacks = uses_lack_r0 i in
    omega (arith, here, lacks)

-- the same for the register that an instruction writes at once, if any
pub late_written : (xs : List Access) (written : Option (Reg × ℕ)) (c : Cells) →
    IfSome written (λ w. waits_for xs (number_of w.0) ≡ false) →
    after_accesses xs (record { regs = with_written written c.regs; bus = c.bus })
    ≡ record { regs = with_written written (after_accesses xs c).regs; bus = (after_accesses xs c).bus }
late_written xs None c h = refl
late_written xs (Some w) c h = late_accesses xs w.0 w.1 c h

-- the accesses of a change behind the pending ones: what is written at once can be written before these are answered
pub late_change : (xs : List Access) (change : Change) (c : Cells) (state : Completed) →
    state.regs ≡ (after_accesses xs c).regs →
    state.bus ≡ (after_accesses xs c).bus →
    IfSome change.register (λ w. waits_for xs (number_of w.0) ≡ false) →
    after_accesses (xs ++ change_accesses change) (record { regs = with_written change.register c.regs; bus = c.bus })
    ≡ cells_after change state
late_change xs change c state regs bus h =
    accesses_append xs (change_accesses change) (record { regs = with_written change.register c.regs; bus = c.bus })
    ∙ ap (after_accesses (change_accesses change)) (late_written xs change.register c h)
    ∙ ap₂ (λ (r : List ℕ) (b : ℕ → ℕ). after_accesses (change_accesses change) (record { regs = with_written change.register r; bus = b }))
    (sym regs) (sym bus)

-- no register past r31 waits
pub beyond_waits_not : (xs : List Access) (r : ℕ) → 32 ≤ r → waits_for xs r ≡ false
unfolding waits_for
beyond_waits_not [] r h = refl
beyond_waits_not (x ∷ xs) r h =
    let small : number_of x.reg < 32 = omega arith in
    let other : (number_of x.reg == r) ≡ false = grind (arith, nat_tests) in
    by_test x.write
    (λ write. rw write (beyond_waits_not xs r h))
    (λ read. by_test (r == 0)
    (λ is_zero. rw (read, is_zero) (beyond_waits_not xs r h))
    (λ there. rw (read, there, other) (beyond_waits_not xs r h)))
