-- The registers that wait for the accesses of an instruction: it writes each of them, and no two accesses load one. So an
-- access that is issued or answered changes what waits by its own register alone.
use Rattle.std.specs.Prelude.{ℕ, Bool, true, false, not, List, [], ◌∷◌, ◌++◌, Some, None, ◌≡◌, ◌≢◌, ◌<◌, ◌%◌, ◌==◌, ◌&&◌, ◌||◌, length, map, if◌then◌else◌}
use Rattle.std.specs.Int.{bit_at}
use Rattle.std.proofs.Common.{arith, refl, sym, ap, ap₂, ◌∙◌, subst}
use Rattle.std.proofs.Math.Path.{fun_ext}
use Rattle.std.proofs.lemmas.Bool.{eqb-true, eqb-false}
use Rattle.std.proofs.lemmas.Bool.Decides.{nat_tests}
use Rattle.m88_base.specs.RegisterSet.{with_member}
use Rattle.m88_base.specs.declared.reg.Reg.{Reg}
use Rattle.m88_base.specs.Reg.{number_of}
use Rattle.m88_isa.proofs.Alone.{by_test, in_left, in_right, in_own}
use Rattle.m88_isa.proofs.Held.{none_busy, writes_it}
use Rattle.m88_isa.proofs.Plans.{touches_counted}
use Rattle.m88_isa.specs.Address.{after_bytes}
use Rattle.m88_isa.specs.Bus.{LoadApart, loads, waits_for}
use Rattle.m88_isa.specs.Held.{busy_register}
use Rattle.m88_isa.specs.Effect.{Change, Meaning, accesses, goes, inputs_of, meaning_of, raises, traps}
use Rattle.m88_isa.specs.History.{change_accesses}
use Rattle.m88_isa.specs.Instr.{IsValid}
use Rattle.m88_isa.specs.Memory.{Touch, access_of, first_half, load, locked, rounded, size_of, store, touches_of}
use Rattle.m88_isa.specs.Operands.{bit_of, no_register, pair_of, register_after, register_if, loads_double, writes_d, writes_of}
use Rattle.m88_isa.specs.declared.instr.Instr.{Instr}
use Rattle.m88_isa.specs.declared.instr.Instr.TheVariants as instr
use Rattle.m88_isa.specs.declared.instr.MemOp.{MemOp}
use Rattle.m88_isa.specs.declared.instr.MemOp.TheVariants as memop
use Rattle.m88_isa.specs.declared.planned.Access.{Access}
use Rattle.m88_isa.specs.declared.planned.Inputs.{Inputs}

-- what waits for accesses one after the other
or_assoc : (a b c : Bool) → (a || (b || c)) ≡ ((a || b) || c)
or_assoc true b c = refl
or_assoc false b c = refl

pub waits_append : (xs ys : List Access) (r : ℕ) → waits_for (xs ++ ys) r ≡ (waits_for xs r || waits_for ys r)
unfolding waits_for
waits_append [] ys r = refl
waits_append (x ∷ xs) ys r = ap (λ b. loads x r || b) (waits_append xs ys r) ∙ or_assoc (loads x r) (waits_for xs r) (waits_for ys r)

-- a store loads nothing
store_loads_not : (x : Access) (r : ℕ) → x.write ≡ true → loads x r ≡ false
store_loads_not x r write = rw write refl

-- a store that is issued or answered changes nothing of what waits
pub stored_first : (x : Access) (xs : List Access) → x.write ≡ true → waits_for (x ∷ xs) ≡ waits_for xs
unfolding waits_for
stored_first x xs write = fun_ext (λ r. rw (store_loads_not x r write) refl)

or_false : (a : Bool) → (a || false) ≡ a
or_false true = refl
or_false false = refl

pub stored_last : (x : Access) (xs : List Access) → x.write ≡ true → waits_for (xs ++ (x ∷ [])) ≡ waits_for xs
unfolding waits_for
stored_last x xs write = fun_ext (λ r.
    waits_append xs (x ∷ []) r ∙ ap (λ b. waits_for xs r || (b || false)) (store_loads_not x r write) ∙ or_false (waits_for xs r))

and_false : (a : Bool) → (a && false) ≡ false
and_false true = refl
and_false false = refl

and_true : (a : Bool) → (a && true) ≡ a
and_true true = refl
and_true false = refl

loads_read : (x : Access) (r : ℕ) → x.write ≡ false → loads x r ≡ (not (r == 0) && (number_of x.reg == r))
loads_read x r read = rw read refl

and_swap : (n : ℕ) → ((n == n) && not (n == 0)) ≡ (not (n == 0) && (n == n))
and_swap n = by_test (n == 0)
    (λ is_zero. rw is_zero (and_false (n == n)))
    (λ there. rw there (and_true (n == n)))

free_there : (x : Access) (xs : List Access) (r : ℕ) → x.write ≡ false → LoadApart (x ∷ xs) → loads x r ≡ true →
    waits_for xs r ≡ false
free_there x xs r read apart h = by_test (number_of x.reg == r)
    (λ same. let e : number_of x.reg ≡ r = eqb-true (number_of x.reg) r same in
    subst (λ k. waits_for xs k ≡ false) e (apart.0 (subst (λ k. loads x k ≡ true) (sym e) h)))
    (λ other. let no : loads x r ≡ false = loads_read x r read ∙ ap (λ b. not (r == 0) && b) other ∙ and_false (not (r == 0)) in absurd cc)

-- a register of a set, either way round
member_same : (n r : ℕ) → ((r == n) && not (n == 0)) ≡ (not (r == 0) && (n == r))
member_same n r = by_test (n == r)
    (λ same. let e : n ≡ r = eqb-true n r same in subst (λ k. ((k == n) && not (n == 0)) ≡ (not (k == 0) && (n == k))) e (and_swap n))
    (λ other. let apart : n ≢ r = eqb-false n r other in
    let turned : (r == n) ≡ false = grind (arith, nat_tests) in
    rw (turned, other) (sym (and_false (not (r == 0)))))

put_in : (there w : Bool) → (if there then true else w) ≡ (w || there)
put_in true true = refl
put_in true false = refl
put_in false true = refl
put_in false false = refl

left_out : (there loads_it w : Bool) → there ≡ loads_it → (there ≡ true → w ≡ false) →
    (if there then false else (loads_it || w)) ≡ w
left_out true true w e h = sym (h refl)
left_out true false w e h = absurd cc
left_out false true w e h = absurd cc
left_out false false w e h = refl

-- a load that is issued makes its register wait
pub loaded_last : (x : Access) (xs : List Access) → x.write ≡ false →
    with_member (number_of x.reg) true (waits_for xs) ≡ waits_for (xs ++ (x ∷ []))
unfolding waits_for
loaded_last x xs read = fun_ext (λ r.
    put_in ((r == number_of x.reg) && not (number_of x.reg == 0)) (waits_for xs r)
    ∙ ap (λ b. waits_for xs r || b) (member_same (number_of x.reg) r ∙ sym (loads_read x r read) ∙ sym (or_false (loads x r)))
    ∙ sym (waits_append xs (x ∷ []) r))

-- one that is answered leaves it free, where no other loads it
pub loaded_first : (x : Access) (xs : List Access) → x.write ≡ false → LoadApart (x ∷ xs) →
    with_member (number_of x.reg) false (waits_for (x ∷ xs)) ≡ waits_for xs
unfolding waits_for
loaded_first x xs read apart = fun_ext (λ r.
    let same : ((r == number_of x.reg) && not (number_of x.reg == 0)) ≡ loads x r =
    member_same (number_of x.reg) r ∙ sym (loads_read x r read) in
    left_out ((r == number_of x.reg) && not (number_of x.reg == 0)) (loads x r) (waits_for xs r) same
    (λ there. free_there x xs r read apart (sym same ∙ there)))

-- accesses that load registers of a set alone, and no register twice
pub record IsIssue (set : ℕ) (xs : List Access) : Type 0 where
  pub within : (r : ℕ) → waits_for xs r ≡ true → bit_at set r ≡ 1
  pub apart : LoadApart xs

none_issue : (set : ℕ) → IsIssue set []
unfolding waits_for
none_issue set = record { within = λ r h. absurd cc; apart = tt }

by_or : {A : Type 0} (a b : Bool) → (a || b) ≡ true → (a ≡ true → A) → (b ≡ true → A) → A
by_or true b h f g = f refl
by_or false b h f g = g h

-- what is loaded is the access's own register
own_register : (x : Access) (r : ℕ) → loads x r ≡ true → number_of x.reg ≡ r
own_register x r h = by_test x.write
    (λ write. let no = store_loads_not x r write in absurd cc)
    (λ read. by_test (number_of x.reg == r)
    (λ same. eqb-true (number_of x.reg) r same)
    (λ other. let no : loads x r ≡ false = loads_read x r read ∙ ap (λ b. not (r == 0) && b) other ∙ and_false (not (r == 0)) in absurd cc))

more_issue : (set : ℕ) (x : Access) (xs : List Access) →
    (loads x (number_of x.reg) ≡ true → bit_at set (number_of x.reg) ≡ 1) →
    (loads x (number_of x.reg) ≡ true → waits_for xs (number_of x.reg) ≡ false) →
    IsIssue set xs →
    IsIssue set (x ∷ xs)
unfolding waits_for
more_issue set x xs inside alone rest = record {
  within = λ r h. by_or (loads x r) (waits_for xs r) h
      (λ here. let e : number_of x.reg ≡ r = own_register x r here in
      subst (λ k. bit_at set k ≡ 1) e (inside (subst (λ k. loads x k ≡ true) (sym e) here)))
      (λ later. rest.within r later);
  apart = (alone, rest.apart);
}

-- a register that is loaded isn't r0
there_of : (n : ℕ) → (not (n == 0) && (n == n)) ≡ true → (n == 0) ≡ false
there_of n h = by_test (n == 0) (λ is_zero. absurd (let no = rw is_zero at h in cc)) (λ there. there)

in_first : (d other : Reg) → (not (number_of d == 0) && (number_of d == number_of d)) ≡ true → bit_at (pair_of d other) (number_of d) ≡ 1
in_first d other h = in_left (bit_of d) (bit_of other) (number_of d) (in_own (number_of d) (there_of (number_of d) h))

in_second : (d other : Reg) → (not (number_of other == 0) && (number_of other == number_of other)) ≡ true →
    bit_at (pair_of d other) (number_of other) ≡ 1
in_second d other h = in_right (bit_of d) (bit_of other) (number_of other) (in_own (number_of other) (there_of (number_of other) h))

-- one load, a load and a store, and stores
one_load : (size : ℕ) (signed : Bool) (d other : Reg) (place : ℕ) → IsIssue (pair_of d other) (access_of (load size signed d place) ∷ [])
unfolding waits_for
one_load size signed d other place =
    more_issue (pair_of d other) (access_of (load size signed d place)) [] (in_first d other) (λ h. refl) (none_issue (pair_of d other))

one_store : (set size value place : ℕ) → IsIssue set (access_of (store size value place) ∷ [])
unfolding waits_for
one_store set size value place =
    more_issue set (access_of (store size value place)) [] (λ h. absurd cc) (λ h. absurd cc) (none_issue set)

exchange : (size : ℕ) (d other : Reg) (value place : ℕ) →
    IsIssue (pair_of d other) (access_of (locked (load size false d place)) ∷ access_of (locked (store size value place)) ∷ [])
unfolding waits_for
exchange size d other value place =
    more_issue (pair_of d other) (access_of (locked (load size false d place))) (access_of (locked (store size value place)) ∷ [])
    (in_first d other) (λ h. refl)
    (more_issue (pair_of d other) (access_of (locked (store size value place))) [] (λ h. absurd cc) (λ h. absurd cc) (none_issue (pair_of d other)))

two_stores : (set value second place next : ℕ) →
    IsIssue set (access_of (first_half (store 4 value place)) ∷ access_of (store 4 second next) ∷ [])
unfolding waits_for
two_stores set value second place next =
    more_issue set (access_of (first_half (store 4 value place))) (access_of (store 4 second next) ∷ []) (λ h. absurd cc) (λ h. absurd cc)
    (more_issue set (access_of (store 4 second next)) [] (λ h. absurd cc) (λ h. absurd cc) (none_issue set))

-- the second register of a double word is another
next_other : (d : Reg) → (number_of (register_after d) == number_of d) ≡ false
next_other d =
    let small : number_of d < 32 = omega arith in
    let apart : number_of (register_after d) ≢ number_of d = omega arith in
    grind (arith, nat_tests)

two_loads : (d : Reg) (place next : ℕ) →
    IsIssue (pair_of d (register_after d)) (access_of (first_half (load 4 false d place)) ∷ access_of (load 4 false (register_after d) next) ∷ [])
unfolding waits_for
two_loads d place next =
    more_issue (pair_of d (register_after d)) (access_of (first_half (load 4 false d place))) (access_of (load 4 false (register_after d) next) ∷ [])
    (in_first d (register_after d)) (λ h. rw (next_other d) (ap (λ b. b || false) (and_false (not (number_of d == 0)))))
    (more_issue (pair_of d (register_after d)) (access_of (load 4 false (register_after d) next)) [] (in_second d (register_after d)) (λ h. refl)
    (none_issue (pair_of d (register_after d))))

-- a line for each mnemonic
issue_of_op : (op : MemOp) (d : Reg) (value second place : ℕ) →
    IsIssue (pair_of (register_if (writes_d op) d) (register_if (loads_double op) (register_after d)))
    (map access_of (touches_of op d value second place))
issue_of_op memop.XmemBu d value second place = exchange 1 d no_register value place
issue_of_op memop.Xmem d value second place = exchange 4 d no_register value place
issue_of_op memop.LdHu d value second place = one_load 2 false d no_register place
issue_of_op memop.LdBu d value second place = one_load 1 false d no_register place
issue_of_op memop.LdD d value second place = two_loads d place (after_bytes place 4)
issue_of_op memop.Ld d value second place = one_load 4 false d no_register place
issue_of_op memop.LdH d value second place = one_load 2 true d no_register place
issue_of_op memop.LdB d value second place = one_load 1 true d no_register place
issue_of_op memop.StD d value second place = two_stores (pair_of no_register no_register) value second place (after_bytes place 4)
issue_of_op memop.St d value second place = one_store (pair_of no_register no_register) 4 value place
issue_of_op memop.StH d value second place = one_store (pair_of no_register no_register) 2 value place
issue_of_op memop.StB d value second place = one_store (pair_of no_register no_register) 1 value place

touches_of_meaning : Meaning → List Touch
touches_of_meaning (raises vector) = []
touches_of_meaning (traps vector) = []
touches_of_meaning (goes change) = change.touches

-- what an access to memory at a place means
issue_of_accesses : (set : ℕ) (op : MemOp) (d : Reg) (place : ℕ) (x : Inputs) (change : Change) →
    ((at : ℕ) → IsIssue set (map access_of (touches_of op d x.d x.after_d at))) →
    accesses op d place x ≡ goes change →
    IsIssue set (change_accesses change)
unfolding touches_of_meaning
issue_of_accesses set op d place x change issue is = by_test x.mxm
    (λ on. let same : touches_of op d x.d x.after_d (rounded op place) ≡ change.touches = ap touches_of_meaning (rw on at is) in
    subst (λ ts. IsIssue set (map access_of ts)) same (issue (rounded op place)))
    (λ off. by_test (place % size_of op == 0)
    (λ t. let same : touches_of op d x.d x.after_d place ≡ change.touches = ap touches_of_meaning (rw (off, t) at is) in
    subst (λ ts. IsIssue set (map access_of ts)) same (issue place))
    (λ f. let no = rw (off, f) at is in absurd cc))

no_touches : (set : ℕ) (ts : List Touch) → length ts ≡ 0 → IsIssue set (map access_of ts)
no_touches set [] h = none_issue set
no_touches set (t ∷ ts) h = absurd (omega (arith, h))

-- the accesses of an instruction load registers that it writes, and no register twice
pub issued_apart : (i : Instr) (regs : List ℕ) (carry mxm : Bool) (pc next : ℕ) (change : Change) → IsValid i →
    meaning_of i regs carry mxm pc next ≡ goes change →
    IsIssue (writes_of i) (change_accesses change)
unfolding writes_of
issued_apart (instr.MemImm op d s1 imm) regs carry mxm pc next change valid is =
    issue_of_accesses (writes_of (instr.MemImm op d s1 imm)) op d _ (inputs_of (instr.MemImm op d s1 imm) regs carry mxm pc next) change
    (λ at. issue_of_op op d _ _ at) is
issued_apart (instr.MemReg op d s1 s2 scaled true) regs carry mxm pc next change valid is = absurd cc
issued_apart (instr.MemReg op d s1 s2 scaled false) regs carry mxm pc next change valid is =
    issue_of_accesses (writes_of (instr.MemReg op d s1 s2 scaled false)) op d _ (inputs_of (instr.MemReg op d s1 s2 scaled false) regs carry mxm pc next)
    change (λ at. issue_of_op op d _ _ at) is
issued_apart i regs carry mxm pc next change valid is =
    no_touches (writes_of i) change.touches (touches_counted i regs carry mxm pc next change valid is)

-- accesses that load other registers than those that wait
later_not : (a b : Bool) → (a || b) ≡ false → b ≡ false
later_not true b h = absurd cc
later_not false b h = h

apart_head : (x : Access) (xs ys : List Access) → LoadApart (x ∷ xs) →
    (loads x (number_of x.reg) ≡ true → waits_for ys (number_of x.reg) ≡ false) →
    loads x (number_of x.reg) ≡ true →
    waits_for (xs ++ ys) (number_of x.reg) ≡ false
apart_head x xs ys apart other h =
    waits_append xs ys (number_of x.reg) ∙ ap₂ (λ a b. a || b) (apart.0 h) (other h)

pub apart_append : (xs ys : List Access) → LoadApart xs → LoadApart ys →
    ((r : ℕ) → waits_for ys r ≡ true → waits_for xs r ≡ false) →
    LoadApart (xs ++ ys)
unfolding waits_for
apart_append [] ys apart others new = others
apart_append (x ∷ xs) ys apart others new = (
  apart_head x xs ys apart (λ h. by_test (waits_for ys (number_of x.reg))
      (λ again. absurd (let no = new (number_of x.reg) again in let yes = ap (λ b. b || waits_for xs (number_of x.reg)) h in cc))
      (λ never. never)),
  apart_append xs ys apart.1 others (λ r h. later_not (loads x r) (waits_for xs r) (new r h)),
)

-- where nothing holds an instruction, its accesses join the pending ones, and no two load one register
pub issue_stays_apart : (i : Instr) (pending : List Access) (regs : List ℕ) (carry mxm : Bool) (pc next : ℕ) (change : Change) → IsValid i →
    meaning_of i regs carry mxm pc next ≡ goes change →
    busy_register (Some i) pending ≡ None →
    LoadApart pending →
    LoadApart (pending ++ change_accesses change)
issue_stays_apart i pending regs carry mxm pc next change valid is free apart =
    let issue = issued_apart i regs carry mxm pc next change valid is in
    apart_append pending (change_accesses change) apart issue.apart
    (λ r new. none_busy (Some i) pending r free (writes_it i r (issue.within r new)))
