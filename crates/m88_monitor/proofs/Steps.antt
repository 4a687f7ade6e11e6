-- One triple's service in parts.
use Rattle.std.specs.Prelude.{Option, is_some, slice_get}
use Rattle.std.proofs.Common.{ℕ, zero, suc, ◌≡◌, ◌<◌, Bool, true, false, List, Some, if◌then◌else◌, refl, ap, arith, sym, ◌∙◌}
use Rattle.m88_base.specs.Pages.{page_number}
use Rattle.m88_base.specs.Reg.{with_register}
use Rattle.m88_base.specs.declared.triple.Triple.{Triple}
use Rattle.m88_ctrl.specs.ControlRegisters.{ControlRegisters, triples_by_age}
use Rattle.m88_isa.proofs.Laws.{by_test}
use Rattle.m88_isa.specs.Bus.{bus_after, loaded}
use Rattle.m88_isa.specs.Triples.{access_in, is_valid_triple}
use Rattle.m88_isa.specs.declared.planned.Access.{Access}
use Rattle.m88_mem.specs.Marks.{with_page}
use Rattle.m88_monitor.specs.Serving.{Serving, after_triple, served_access, triple_at, valid_count_of, with_finished, with_loaded}
use Rattle.m88_monitor.specs.declared.served.ServedAccess.{ServedAccess}

-- a triple by its place
pub by_place : (index : ℕ) (c : ControlRegisters) (t : Triple) → index < 3 → slice_get (triples_by_age c) index ≡ Some t →
    t ≡ triple_at index c
by_place zero c t within e = cc
by_place (suc zero) c t within e = cc
by_place (suc (suc zero)) c t within e = cc
by_place (suc (suc (suc n))) c t within e = absurd (omega (arith, within))

-- a load leaves the triples
pub same_triple : (index : ℕ) (a : Access) (c : ControlRegisters) → triple_at index (with_loaded a c) ≡ triple_at index c
same_triple index a c = by_test a.write (λ w. rw w refl) (λ r. rw r refl)

-- the parts of a valid triple's service together
pub served_valid : (index : ℕ) (s : Serving) (t : Triple) (a : Access) (c1 c2 : ControlRegisters) (numbers : List ℕ)
    (bus : ℕ → ℕ) (absent : ℕ → Bool) →
    t ≡ triple_at index s.control →
    is_valid_triple t ≡ true →
    a ≡ access_in t →
    c1 ≡ with_loaded a s.control →
    c2 ≡ with_finished index c1 →
    numbers ≡ (if a.write then s.numbers else with_register a.reg (loaded a s.bus) s.numbers) →
    bus ≡ bus_after a s.bus →
    absent ≡ with_page (page_number a.addr) false s.absent →
    record { control = c2; numbers = numbers; bus = bus; absent = absent } ≡ after_triple index s
served_valid index s t a c1 c2 numbers bus absent et ev ea e1 e2 en eb eabs =
    let valid : is_valid_triple (triple_at index s.control) ≡ true = ap is_valid_triple (sym et) ∙ ev in
    let access : a ≡ access_in (triple_at index s.control) = ea ∙ ap access_in et in
    let control : c2 ≡ with_finished index (with_loaded (access_in (triple_at index s.control)) s.control) =
    e2 ∙ ap (with_finished index) (e1 ∙ ap (λ x. with_loaded x s.control) access) in
    let put : numbers ≡ (if (access_in (triple_at index s.control)).write then s.numbers
    else with_register (access_in (triple_at index s.control)).reg (loaded (access_in (triple_at index s.control)) s.bus) s.numbers) =
    en ∙ ap (λ (x : Access). if x.write then s.numbers else with_register x.reg (loaded x s.bus) s.numbers) access in
    let words : bus ≡ bus_after (access_in (triple_at index s.control)) s.bus = eb ∙ ap (λ x. bus_after x s.bus) access in
    let pages : absent ≡ with_page (page_number (access_in (triple_at index s.control)).addr) false s.absent =
    eabs ∙ ap (λ (x : Access). with_page (page_number x.addr) false s.absent) access in
    rw valid (λ i. record { control = control i; numbers = put i; bus = words i; absent = pages i })

-- as many are counted as triples are valid
pub counted : {made : Option ServedAccess} (t : Triple) (bus : ℕ → ℕ) → made ≡ served_access t bus
    → (if is_some made then 1 else 0) ≡ valid_count_of t
counted t bus e =
    ap (λ (o : Option ServedAccess). if is_some o then 1 else 0) e
    ∙ by_test (is_valid_triple t) (λ valid. rw valid refl) (λ none. rw none refl)

-- a triple's service leaves the others
pub second_kept : (s : Serving) → (after_triple 0 s).control.t1 ≡ s.control.t1
second_kept s = by_test (is_valid_triple s.control.t0)
    (λ v. rw v (by_test (access_in s.control.t0).write (λ w. rw w refl) (λ r. rw r refl)))
    (λ n. rw n refl)

pub third_kept : (s : Serving) → (after_triple 0 s).control.t2 ≡ s.control.t2
third_kept s = by_test (is_valid_triple s.control.t0)
    (λ v. rw v (by_test (access_in s.control.t0).write (λ w. rw w refl) (λ r. rw r refl)))
    (λ n. rw n refl)

pub third_kept_again : (s : Serving) → (after_triple 1 s).control.t2 ≡ s.control.t2
third_kept_again s = by_test (is_valid_triple s.control.t1)
    (λ v. rw v (by_test (access_in s.control.t1).write (λ w. rw w refl) (λ r. rw r refl)))
    (λ n. rw n refl)
