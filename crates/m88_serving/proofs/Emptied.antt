-- Behind the service of what is accepted SSBR is empty: it is the set of the registers that are loaded, and each load
-- clears its own.
use Rattle.std.specs.Prelude.{ℕ, zero, suc, Bool, true, false, not, ◌≡◌, ◌≢◌, ◌<◌, ◌≤◌, ◌+◌, ◌-◌, ◌*◌, ◌^◌, ◌==◌, ◌&&◌, ◌||◌, if◌then◌else◌}
use Rattle.std.proofs.Common.{refl, sym, ap, ◌∙◌, arith}
use Rattle.std.proofs.Math.Path.{fun_ext}
use Rattle.std.proofs.lemmas.Bool.{eqb-true, eqb-false}
use Rattle.std.proofs.lemmas.Bool.Decides.{nat_tests}
use Rattle.m88_base.proofs.Laws.{bit_of_set}
use Rattle.m88_base.specs.Reg.{number_of}
use Rattle.m88_base.specs.RegisterSet.{bits_below, register_bits}
use Rattle.m88_base.specs.declared.triple.Triple.{Triple}
use Rattle.m88_ctrl.specs.ControlRegisters.{ControlRegisters, triples_by_age}
use Rattle.m88_event.specs.declared.record.Record.{Record}
use Rattle.m88_isa.proofs.Laws.{beyond_waits_not, by_test}
use Rattle.m88_isa.specs.Bus.{waits_for}
use Rattle.m88_isa.specs.Triples.{access_in, accesses_in, is_valid_triple}
use Rattle.m88_monitor.proofs.Laws.{second_kept, third_kept, third_kept_again}
use Rattle.m88_monitor.specs.Serving.{Serving, after_access_at, after_service, after_triple, triple_at, with_finished, with_loaded, without_bit}
use Rattle.m88_scoreboard.specs.Registers.{none_waits}
use Rattle.m88_serving.specs.Faults.{awaited_set}
use Rattle.m88_serving.specs.Laws.{EachLeavesNoneWaiting}
use Rattle.m88_serving.specs.Serving.{serving_of_case}
use Rattle.m88_serving.specs.Inside.Loads.{with_load}
use Rattle.m88_serving.proofs.Making.{IsFaultless, faultless_record}
use Rattle.m88_serving.proofs.Marked.{loads_all}
use Rattle.m88_serving.proofs.Verdicts.{accepted_record}

-- a set with one number left out
abbrev without : ℕ → (ℕ → Bool) → ℕ → Bool
without n set r = if n == r then false else set r

-- where no number is left out, the word is the same
same_below : (n count : ℕ) (set : ℕ → Bool) → count ≤ n → bits_below (without n set) count ≡ bits_below set count
unfolding bits_below
same_below n zero set within = refl
same_below n (suc count) set within =
    let apart : count ≢ n = omega (arith, within) in
    let other : (n == count) ≡ false = grind (arith, nat_tests) in
    rw (same_below n count set (omega (arith, within)), other) refl

-- and else it lacks the weight of that number
less_one : (n count : ℕ) (set : ℕ → Bool) → n < count → bits_below (without n set) count + (if set n then 2 ^ n else 0) ≡ bits_below set count
unfolding bits_below
less_one n zero set within = absurd (omega (arith, within))
less_one n (suc count) set within = by_test (n == count)
    (λ same. let is : n ≡ count = eqb-true n count same in
    rw (same, ← is) (let kept : bits_below (without n set) n ≡ bits_below set n = same_below n n set (omega arith) in omega (arith, kept)))
    (λ other. let apart : n ≢ count = eqb-false n count other in
    let before = less_one n count set (omega (arith, within, apart)) in
    rw other (omega (arith, before)))

-- a bit cleared in the word of a set
weight : (b : Bool) (p : ℕ) → (if b then 1 else 0) * p ≡ (if b then p else 0)
weight true p = omega arith
weight false p = omega arith

cleared : (n : ℕ) (set : ℕ → Bool) → n < 32 → ((k : ℕ) → 32 ≤ k → set k ≡ false) → without_bit n (register_bits set) ≡ register_bits (without n set)
cleared n set within beyond =
    ap (λ x. register_bits set - x) (ap (λ b. b * 2 ^ n) (bit_of_set set beyond n) ∙ weight (set n) (2 ^ n))
    ∙ less (bits_below (without n set) 32) (register_bits set) (if set n then 2 ^ n else 0) (less_one n 32 set within)
  where
    less : (a b x : ℕ) → a + x ≡ b → b - x ≡ a
    less a b x e = omega (arith, e)

-- a transaction loads a register, and the set without it
abbrev is_loaded : Triple → ℕ → Bool
is_loaded t r = is_valid_triple t && not (access_in t).write && number_of (access_in t).reg == r

abbrev left_by : Triple → (ℕ → Bool) → ℕ → Bool
left_by t set r = if is_loaded t r then false else set r

-- none of it is beyond the registers
left_beyond : (t : Triple) (set : ℕ → Bool) → ((k : ℕ) → 32 ≤ k → set k ≡ false) → (k : ℕ) → 32 ≤ k → left_by t set k ≡ false
left_beyond t set beyond k far = by_test (is_loaded t k) (λ l. rw l refl) (λ f. rw f (beyond k far))

-- what a load leaves, a store and what isn't valid
left_by_load : (t : Triple) (set : ℕ → Bool) → is_valid_triple t ≡ true → (access_in t).write ≡ false
    → without (number_of (access_in t).reg) set ≡ left_by t set
left_by_load t set valid reads = λ i r. if sym valid i && not (sym reads i) && number_of (access_in t).reg == r then false else set r

left_by_store : (t : Triple) (set : ℕ → Bool) → is_valid_triple t ≡ true → (access_in t).write ≡ true → set ≡ left_by t set
left_by_store t set valid writes = λ i r. if sym valid i && not (sym writes i) && number_of (access_in t).reg == r then false else set r

left_by_none : (t : Triple) (set : ℕ → Bool) → is_valid_triple t ≡ false → set ≡ left_by t set
left_by_none t set none = λ i r. if sym none i && not (access_in t).write && number_of (access_in t).reg == r then false else set r

-- finishing a transaction leaves SSBR as it is
finished_ssbr : (index : ℕ) (c : ControlRegisters) → (with_finished index c).ssbr ≡ c.ssbr
finished_ssbr index c = by_test (index == 0) (λ z. rw z refl) (λ nz. rw nz (by_test (index == 1) (λ o. rw o refl) (λ no. rw no refl)))

-- SSBR behind the service of a transaction
ssbr_made : (t : Triple) (c : ControlRegisters) (set : ℕ → Bool) → is_valid_triple t ≡ true → ((k : ℕ) → 32 ≤ k → set k ≡ false)
    → c.ssbr ≡ register_bits set → (with_loaded (access_in t) c).ssbr ≡ register_bits (left_by t set)
ssbr_made t c set valid beyond is = by_test (access_in t).write
    (λ writes. rw writes is ∙ ap register_bits (left_by_store t set valid writes))
    (λ reads. rw reads (ap (without_bit (number_of (access_in t).reg)) is)
    ∙ cleared (number_of (access_in t).reg) set (access_in t).reg.in_range beyond ∙ ap register_bits (left_by_load t set valid reads))

ssbr_step : (index : ℕ) (s : Serving) (set : ℕ → Bool) → ((k : ℕ) → 32 ≤ k → set k ≡ false) → s.control.ssbr ≡ register_bits set
    → (after_triple index s).control.ssbr ≡ register_bits (left_by (triple_at index s.control) set)
ssbr_step index s set beyond is =
    let t : Triple = triple_at index s.control in
    by_test (is_valid_triple t)
    (λ valid. ap (λ (v : Bool). (if v then after_access_at index (access_in t) s else s).control.ssbr) valid
    ∙ finished_ssbr index (with_loaded (access_in t) s.control) ∙ ssbr_made t s.control set valid beyond is)
    (λ none. ap (λ (v : Bool). (if v then after_access_at index (access_in t) s else s).control.ssbr) none
    ∙ is ∙ ap register_bits (left_by_none t set none))

-- what a transaction loads is left out behind it
inside : (t : Triple) (set : ℕ → Bool) (r : ℕ) → left_by t (with_load t set) r ≡ true → set r ≡ true
unfolding with_load
inside t set r e = by_test (is_valid_triple t)
    (λ valid. by_test (access_in t).write
    (λ writes. rw (valid, writes) at e)
    (λ reads. by_test (number_of (access_in t).reg == r)
    (λ its. let denied : false ≡ true = rw (valid, reads, its) at e in absurd cc)
    (λ other. left_over (not (r == 0)) (set r) (rw (valid, reads, other) at e))))
    (λ none. rw none at e)
  where
    left_over : (a b : Bool) → ((a && false) || b) ≡ true → b ≡ true
    left_over true b e = e
    left_over false b e = e

fewer : (t : Triple) (a b : ℕ → Bool) → ((r : ℕ) → a r ≡ true → b r ≡ true) → (r : ℕ) → left_by t a r ≡ true → left_by t b r ≡ true
fewer t a b within r e = by_test (is_loaded t r)
    (λ l. let denied : false ≡ true = rw l at e in absurd cc)
    (λ f. rw f (within r (rw f at e)))

is_false : (b : Bool) → (b ≡ true → ⊥) → b ≡ false
is_false true denied = absurd (denied refl)
is_false false denied = refl

-- behind all three none is left
none_left : (t0 t1 t2 : Triple) (r : ℕ)
    → left_by t2 (left_by t1 (left_by t0 (with_load t0 (with_load t1 (with_load t2 none_waits))))) r ≡ false
none_left t0 t1 t2 r = is_false _ (λ e.
    let w2 : ℕ → Bool = with_load t2 none_waits in
    let w1 : ℕ → Bool = with_load t1 w2 in
    let first : left_by t2 (left_by t1 w1) r ≡ true =
    fewer t2 (left_by t1 (left_by t0 (with_load t0 w1))) (left_by t1 w1) (fewer t1 (left_by t0 (with_load t0 w1)) w1 (inside t0 w1)) r e in
    let second : left_by t2 w2 r ≡ true = fewer t2 (left_by t1 w1) w2 (inside t1 w2) r first in
    let third : none_waits r ≡ true = inside t2 none_waits r second in
    absurd cc)

no_bits : (count : ℕ) → bits_below none_waits count ≡ 0
unfolding bits_below
no_bits zero = refl
no_bits (suc count) = rw (no_bits count) refl

-- SSBR behind the three
emptied : (s : Serving) → s.control.ssbr ≡ register_bits (waits_for (accesses_in (triples_by_age s.control))) → (after_service s).control.ssbr ≡ 0
emptied s is =
    let t0 : Triple = s.control.t0 in
    let t1 : Triple = s.control.t1 in
    let t2 : Triple = s.control.t2 in
    let set : ℕ → Bool = waits_for (accesses_in (triples_by_age s.control)) in
    let beyond : (k : ℕ) → 32 ≤ k → set k ≡ false = λ k far. beyond_waits_not (accesses_in (triples_by_age s.control)) k far in
    let once = left_beyond t0 set beyond in
    ssbr_step 2 (after_triple 1 (after_triple 0 s)) (left_by t1 (left_by t0 set)) (left_beyond t1 (left_by t0 set) once)
    (ssbr_step 1 (after_triple 0 s) (left_by t0 set) once (ssbr_step 0 s set beyond is)
    ∙ ap (λ t. register_bits (left_by t (left_by t0 set))) (second_kept s))
    ∙ ap (λ t. register_bits (left_by t (left_by t1 (left_by t0 set)))) (third_kept_again (after_triple 0 s) ∙ third_kept s)
    ∙ ap (λ w. register_bits (left_by t2 (left_by t1 (left_by t0 w)))) (loads_all t0 t1 t2)
    ∙ ap register_bits (fun_ext (none_left t0 t1 t2))
    ∙ no_bits 32

pub each_leaves_none_waiting : EachLeavesNoneWaiting
each_leaves_none_waiting = λ input told accepted.
    let r : Record = told.fault in
    let fits : IsFaultless r = faultless_record r (accepted_record input told accepted) in
    emptied (serving_of_case told) (eqb-true r.ssbr (awaited_set r) fits.loaded)
