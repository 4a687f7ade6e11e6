-- The control registers after a data fault was served: they show its record.
use Rattle.std.specs.Prelude.{ℕ, zero, suc, Bool, true, false, not, List, [], ◌∷◌, All, ◌≡◌, ◌≢◌, ◌<◌, ◌≤◌, ◌+◌, ◌^◌, ◌==◌, ◌&&◌, length, map, slice_get, if◌then◌else◌}
use Rattle.std.specs.Int.{bit_at}
use Rattle.std.proofs.Common.{arith, refl, sym, ap, ◌∙◌, subst}
use Rattle.std.proofs.Math.Path.{fun_ext}
use Rattle.std.proofs.lemmas.Bool.{eqb-false, eqb-true}
use Rattle.std.proofs.lemmas.Bool.Decides.{nat_tests}
use Rattle.std.proofs.lemmas.Nat.Bits.{bit_at-lt}
use Rattle.m88_base.proofs.Laws.{bit_of_member}
use Rattle.m88_base.specs.Reg.{number_of}
use Rattle.m88_base.specs.RegisterSet.{bits_below, register_bits, with_member}
use Rattle.m88_base.specs.Triple.{no_triple}
use Rattle.m88_base.specs.declared.triple.Triple.{Triple}
use Rattle.m88_ctrl.specs.ControlRegisters.{ControlRegisters, returned}
use Rattle.m88_event.specs.declared.record.Record.{Record}
use Rattle.m88_isa.proofs.Laws.{by_test, loaded_first, r0_waits_not, stored_first}
use Rattle.m88_isa.specs.Bus.{LoadApart, waits_for}
use Rattle.m88_isa.specs.Memory.{IsWordAccess}
use Rattle.m88_isa.specs.Triples.{finished, triple_or_none}
use Rattle.m88_isa.specs.declared.planned.Access.{Access}
use Rattle.m88_monitor.proofs.Laws.{same_triple, steps_of, three_steps}
use Rattle.m88_monitor.specs.Serving.{Serving, after_service, with_finished, with_loaded, without_bit}
use Rattle.m88_board.specs.Shown.{IsRecordOf, ShowsFault, rest_of}

-- a set without one register, bit by bit: below the register nothing changes, above it its weight is gone
lower_bits : (set : ℕ → Bool) (n count : ℕ) → count ≤ n →
    bits_below (with_member n false set) count ≡ bits_below set count
unfolding bits_below
lower_bits set n zero h = refl
lower_bits set n (suc count) h =
    let other : (count == n) ≡ false = grind (arith, nat_tests) in
    rw other (ap (λ (low : ℕ). low + (if set count then 2 ^ count else 0)) (lower_bits set n count (omega (arith, h))))

own_bit : (set : ℕ → Bool) (n count : ℕ) → n ≢ 0 → count ≡ n →
    bits_below set (suc count) ≡ bits_below (with_member n false set) (suc count) + (if set n then 2 ^ n else 0)
unfolding bits_below
own_bit set n count there e =
    let here : (count == n) ≡ true = grind (arith, nat_tests) in
    let some : (n == 0) ≡ false = grind (arith, nat_tests) in
    let low = lower_bits set n count (omega (arith, e)) in
    let top : (if set count then 2 ^ count else 0) ≡ (if set n then 2 ^ n else 0) =
    ap (λ (k : ℕ). if set k then 2 ^ k else 0) e in
    rw (here, some) (omega (arith, low, top))

higher_bit : (set : ℕ → Bool) (n count : ℕ) → (count == n) ≡ false →
    bits_below set count ≡ bits_below (with_member n false set) count + (if set n then 2 ^ n else 0) →
    bits_below set (suc count) ≡ bits_below (with_member n false set) (suc count) + (if set n then 2 ^ n else 0)
unfolding bits_below
higher_bit set n count past rest = rw past (omega (arith, rest))

upper_bits : (set : ℕ → Bool) (n count : ℕ) → n ≢ 0 → n < count →
    bits_below set count ≡ bits_below (with_member n false set) count + (if set n then 2 ^ n else 0)
upper_bits set n zero there h = absurd (omega (arith, h))
upper_bits set n (suc count) there h = by_test (count == n)
    (λ here. own_bit set n count there (eqb-true count n here))
    (λ past.
    let other = eqb-false count n past in
    higher_bit set n count past (upper_bits set n count there (omega (arith, h, other))))

-- so clearing the register's bit leaves the word of the set without it
bit_as_number : (word n : ℕ) (there : Bool) → (bit_at word n == 1) ≡ there → bit_at word n ≡ (if there then 1 else 0)
bit_as_number word n true e = eqb-true (bit_at word n) 1 e
bit_as_number word n false e =
    let other : bit_at word n ≢ 1 = eqb-false (bit_at word n) 1 e in
    let small = bit_at-lt word n in
    omega (arith, other, small)

cleared : (word low n : ℕ) (there : Bool) → bit_at word n ≡ (if there then 1 else 0) →
    word ≡ low + (if there then 2 ^ n else 0) → without_bit n word ≡ low
cleared word low n true bit whole = rw bit (omega (arith, whole))
cleared word low n false bit whole = rw bit (omega (arith, whole))

without_member : (set : ℕ → Bool) (n : ℕ) → n < 32 → n ≢ 0 →
    without_bit n (register_bits set) ≡ register_bits (with_member n false set)
without_member set n low there =
    cleared (register_bits set) (register_bits (with_member n false set)) n (set n)
    (bit_as_number (register_bits set) n (set n) (bit_of_member set 32 n low))
    (upper_bits set n 32 there low)

-- bit 0 of the word of a set without r0 is clear
zero_clear : (set : ℕ → Bool) → set 0 ≡ false → bit_at (register_bits set) 0 ≡ 0
zero_clear set none = bit_as_number (register_bits set) 0 false (bit_of_member set 32 0 (omega arith) ∙ none)

without_zero : (word : ℕ) → bit_at word 0 ≡ 0 → without_bit 0 word ≡ word
without_zero word clear = rw clear (omega arith)

-- SSBR once a load is served
pub load_served : (a : Access) (xs : List Access) → a.write ≡ false → LoadApart (a ∷ xs) →
    without_bit (number_of a.reg) (register_bits (waits_for (a ∷ xs))) ≡ register_bits (waits_for xs)
load_served a xs read apart =
    let rest : register_bits (with_member (number_of a.reg) false (waits_for (a ∷ xs))) ≡ register_bits (waits_for xs) =
    ap register_bits (loaded_first a xs read apart) in
    by_test (number_of a.reg == 0)
    (λ is_zero.
    let none : number_of a.reg ≡ 0 = eqb-true (number_of a.reg) 0 is_zero in
    let all = zero_clear (waits_for (a ∷ xs)) (r0_waits_not (a ∷ xs)) in
    let same : with_member (number_of a.reg) false (waits_for (a ∷ xs)) ≡ waits_for (a ∷ xs) =
    fun_ext (λ r. zero_in (number_of a.reg) r (waits_for (a ∷ xs)) is_zero) in
    ap (λ (n : ℕ). without_bit n (register_bits (waits_for (a ∷ xs)))) none
    ∙ without_zero (register_bits (waits_for (a ∷ xs))) all
    ∙ sym (ap register_bits same)
    ∙ rest)
    (λ there.
    let some = eqb-false (number_of a.reg) 0 there in
    without_member (waits_for (a ∷ xs)) (number_of a.reg) a.reg.in_range some ∙ rest)
  where
    nowhere : (t there w : Bool) → there ≡ true → (if t && not there then false else w) ≡ w
    nowhere true true w e = refl
    nowhere false true w e = refl
    nowhere t false w e = absurd cc

    zero_in : (n r : ℕ) (set : ℕ → Bool) → (n == 0) ≡ true → with_member n false set r ≡ set r
    zero_in n r set none = nowhere (r == n) (n == 0) (set r) none

-- what serving one triple does to the control registers
record Serves (a : Access) (old new : ControlRegisters) : Type 0 where
  psr : new.psr ≡ old.psr
  epsr : new.epsr ≡ old.epsr
  sxip : new.sxip ≡ old.sxip
  snip : new.snip ≡ old.snip
  sfip : new.sfip ≡ old.sfip
  ssbr : new.ssbr ≡ (with_loaded a old).ssbr
  rest : rest_of new ≡ rest_of old

serves_0 : (a : Access) (c : ControlRegisters) → Serves a c (with_finished 0 (with_loaded a c))
serves_0 a c = by_test a.write
    (λ w. rw w (record { psr = refl; epsr = refl; sxip = refl; snip = refl; sfip = refl; ssbr = refl; rest = refl }))
    (λ r. rw r (record { psr = refl; epsr = refl; sxip = refl; snip = refl; sfip = refl; ssbr = refl; rest = refl }))

serves_1 : (a : Access) (c : ControlRegisters) → Serves a c (with_finished 1 (with_loaded a c))
serves_1 a c = by_test a.write
    (λ w. rw w (record { psr = refl; epsr = refl; sxip = refl; snip = refl; sfip = refl; ssbr = refl; rest = refl }))
    (λ r. rw r (record { psr = refl; epsr = refl; sxip = refl; snip = refl; sfip = refl; ssbr = refl; rest = refl }))

serves_2 : (a : Access) (c : ControlRegisters) → Serves a c (with_finished 2 (with_loaded a c))
serves_2 a c = by_test a.write
    (λ w. rw w (record { psr = refl; epsr = refl; sxip = refl; snip = refl; sfip = refl; ssbr = refl; rest = refl }))
    (λ r. rw r (record { psr = refl; epsr = refl; sxip = refl; snip = refl; sfip = refl; ssbr = refl; rest = refl }))

-- SSBR goes on as the pending transactions do
ssbr_on : (a : Access) (xs : List Access) (c : ControlRegisters) → LoadApart (a ∷ xs) →
    c.ssbr ≡ register_bits (waits_for (a ∷ xs)) →
    (with_loaded a c).ssbr ≡ register_bits (waits_for xs)
ssbr_on a xs c apart e = by_test a.write
    (λ write. rw write (e ∙ ap register_bits (stored_first a xs write)))
    (λ read. rw read
    (ap (λ (word : ℕ). without_bit (number_of a.reg) word) e ∙ load_served a xs read apart))

-- what serving the triples of the pending transactions does to the control registers
pub record IsServed (old new : ControlRegisters) : Type 0 where
  pub psr : new.psr ≡ old.psr
  pub epsr : new.epsr ≡ old.epsr
  pub sxip : new.sxip ≡ old.sxip
  pub snip : new.snip ≡ old.snip
  pub sfip : new.sfip ≡ old.sfip
  pub ssbr : new.ssbr ≡ 0
  pub t0 : new.t0 ≡ finished old.t0
  pub t1 : new.t1 ≡ finished old.t1
  pub t2 : new.t2 ≡ finished old.t2

-- a triple of no transaction is finished already
none_finished : (t : Triple) → t ≡ no_triple → t ≡ finished t
none_finished t e = e ∙ sym (ap finished e)

-- SSBR of no register
none_left : register_bits (waits_for []) ≡ 0
unfolding bits_below waits_for
none_left = refl

steps_served : (xs : List Access) (s : Serving) →
    s.control.t0 ≡ triple_or_none (slice_get xs 0) →
    s.control.t1 ≡ triple_or_none (slice_get xs 1) →
    s.control.t2 ≡ triple_or_none (slice_get xs 2) →
    length xs ≤ 3 →
    LoadApart xs →
    s.control.ssbr ≡ register_bits (waits_for xs) →
    IsServed s.control (steps_of xs s).control
unfolding steps_of
steps_served [] s e0 e1 e2 few apart waits = record {
  psr = refl;
  epsr = refl;
  sxip = refl;
  snip = refl;
  sfip = refl;
  ssbr = waits ∙ none_left;
  t0 = none_finished s.control.t0 e0;
  t1 = none_finished s.control.t1 e1;
  t2 = none_finished s.control.t2 e2;
}
steps_served (a ∷ []) s e0 e1 e2 few apart waits =
    let one = serves_0 a s.control in
    record {
      psr = one.psr;
      epsr = one.epsr;
      sxip = one.sxip;
      snip = one.snip;
      sfip = one.sfip;
      ssbr = one.ssbr ∙ ssbr_on a [] s.control apart waits ∙ none_left;
      t0 = ap finished (same_triple 0 a s.control);
      t1 = same_triple 1 a s.control ∙ none_finished s.control.t1 e1;
      t2 = same_triple 2 a s.control ∙ none_finished s.control.t2 e2;
    }
steps_served (a ∷ b ∷ []) s e0 e1 e2 few apart waits =
    let c1 = with_finished 0 (with_loaded a s.control) in
    let one = serves_0 a s.control in
    let two = serves_1 b c1 in
    record {
      psr = two.psr ∙ one.psr;
      epsr = two.epsr ∙ one.epsr;
      sxip = two.sxip ∙ one.sxip;
      snip = two.snip ∙ one.snip;
      sfip = two.sfip ∙ one.sfip;
      ssbr =
          two.ssbr ∙ ssbr_on b [] c1 apart.1 (one.ssbr ∙ ssbr_on a (b ∷ []) s.control apart waits) ∙ none_left;
      t0 = same_triple 0 b c1 ∙ ap finished (same_triple 0 a s.control);
      t1 = ap finished (same_triple 1 b c1 ∙ same_triple 1 a s.control);
      t2 = same_triple 2 b c1 ∙ same_triple 2 a s.control ∙ none_finished s.control.t2 e2;
    }
steps_served (a ∷ b ∷ c ∷ []) s e0 e1 e2 few apart waits =
    let c1 = with_finished 0 (with_loaded a s.control) in
    let c2 = with_finished 1 (with_loaded b c1) in
    let one = serves_0 a s.control in
    let two = serves_1 b c1 in
    let three = serves_2 c c2 in
    record {
      psr = three.psr ∙ two.psr ∙ one.psr;
      epsr = three.epsr ∙ two.epsr ∙ one.epsr;
      sxip = three.sxip ∙ two.sxip ∙ one.sxip;
      snip = three.snip ∙ two.snip ∙ one.snip;
      sfip = three.sfip ∙ two.sfip ∙ one.sfip;
      ssbr =
          three.ssbr
          ∙ ssbr_on c [] c2 apart.1.1
          (two.ssbr ∙ ssbr_on b (c ∷ []) c1 apart.1 (one.ssbr ∙ ssbr_on a (b ∷ c ∷ []) s.control apart waits))
          ∙ none_left;
      t0 = same_triple 0 c c2 ∙ same_triple 0 b c1 ∙ ap finished (same_triple 0 a s.control);
      t1 = same_triple 1 c c2 ∙ ap finished (same_triple 1 b c1 ∙ same_triple 1 a s.control);
      t2 = ap finished (same_triple 2 c c2 ∙ same_triple 2 b c1 ∙ same_triple 2 a s.control);
    }
steps_served (a ∷ b ∷ c ∷ d ∷ xs) s e0 e1 e2 few apart waits = absurd (omega (arith, few))

pub served_control : (xs : List Access) (s : Serving) →
    s.control.t0 ≡ triple_or_none (slice_get xs 0) →
    s.control.t1 ≡ triple_or_none (slice_get xs 1) →
    s.control.t2 ≡ triple_or_none (slice_get xs 2) →
    All IsWordAccess xs →
    length xs ≤ 3 →
    LoadApart xs →
    s.control.ssbr ≡ register_bits (waits_for xs) →
    IsServed s.control (after_service s).control
served_control xs s e0 e1 e2 made few apart waits =
    subst (λ (u : Serving). IsServed s.control u.control) (sym (three_steps xs s e0 e1 e2 made))
    (steps_served xs s e0 e1 e2 few apart waits)

-- no other register changes
rest_stays : (xs : List Access) (s : Serving) → length xs ≤ 3 → rest_of (steps_of xs s).control ≡ rest_of s.control
unfolding steps_of
rest_stays [] s few = refl
rest_stays (a ∷ []) s few = (serves_0 a s.control).rest
rest_stays (a ∷ b ∷ []) s few =
    let c1 = with_finished 0 (with_loaded a s.control) in (serves_1 b c1).rest ∙ (serves_0 a s.control).rest
rest_stays (a ∷ b ∷ c ∷ []) s few =
    let c1 = with_finished 0 (with_loaded a s.control) in
    let c2 = with_finished 1 (with_loaded b c1) in
    (serves_2 c c2).rest ∙ (serves_1 b c1).rest ∙ (serves_0 a s.control).rest
rest_stays (a ∷ b ∷ c ∷ d ∷ xs) s few = absurd (omega (arith, few))

pub rest_served : (xs : List Access) (s : Serving) →
    s.control.t0 ≡ triple_or_none (slice_get xs 0) →
    s.control.t1 ≡ triple_or_none (slice_get xs 1) →
    s.control.t2 ≡ triple_or_none (slice_get xs 2) →
    All IsWordAccess xs →
    length xs ≤ 3 →
    rest_of (after_service s).control ≡ rest_of s.control
rest_served xs s e0 e1 e2 made few =
    subst (λ (u : Serving). rest_of u.control ≡ rest_of s.control) (sym (three_steps xs s e0 e1 e2 made)) (rest_stays xs s few)

-- and so they show the record
pub shows_fault : (fault : Record) (pending : List Access) (old entered served new : ControlRegisters) →
    IsRecordOf fault pending old →
    entered.epsr ≡ old.psr →
    entered.sxip ≡ fault.sxip →
    entered.snip ≡ fault.snip →
    entered.sfip ≡ fault.sfip →
    entered.t0 ≡ triple_or_none (slice_get pending 0) →
    entered.t1 ≡ triple_or_none (slice_get pending 1) →
    entered.t2 ≡ triple_or_none (slice_get pending 2) →
    IsServed entered served →
    new ≡ returned served →
    ShowsFault fault new
shows_fault fault pending old entered served new of epsr sxip snip sfip t0 t1 t2 done back =
    let status = done.epsr ∙ epsr ∙ sym of.epsr in
    let first = done.t0 ∙ ap finished t0 in
    let second = done.t1 ∙ ap finished t1 in
    let third = done.t2 ∙ ap finished t2 in
    subst (λ (c : ControlRegisters). ShowsFault fault c) (sym back) (record {
      epsr = status;
      psr = status;
      sxip = done.sxip ∙ sxip;
      snip = done.snip ∙ snip;
      sfip = done.sfip ∙ sfip;
      ssbr = done.ssbr;
      triples = (λ i. first i ∷ second i ∷ third i ∷ []) ∙ sym (ap (map finished) of.triples);
    })
