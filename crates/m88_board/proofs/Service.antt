-- What the monitor does of the triples of the pending transactions is what these do.
use Rattle.std.specs.Prelude.{ℕ, zero, suc, IfSome, Bool, true, false, not, List, [], ◌∷◌, Option, Some, None, All, ◌≡◌, ◌≢◌, ◌≤◌, ◌==◌, ◌&&◌, ◌||◌, length, slice_get, if◌then◌else◌}
use Rattle.std.proofs.Common.{arith, refl, sym, ap, ◌∙◌, subst}
use Rattle.std.proofs.Math.Path.{fun_ext}
use Rattle.std.proofs.lemmas.Bool.{eqb-true, eqb-false}
use Rattle.std.proofs.lemmas.Bool.Decides.{nat_tests}
use Rattle.std.proofs.lemmas.List.Elements.{All-head, All-tail}
use Rattle.m88_base.specs.Pages.{page_number}
use Rattle.m88_base.specs.declared.triple.Triple.{Triple}
use Rattle.m88_isa.proofs.Laws.{by_test, told_of}
use Rattle.m88_event.specs.Choice.{touches_page}
use Rattle.m88_isa.specs.Memory.{IsWordAccess}
use Rattle.m88_isa.specs.Triples.{triple_or_none}
use Rattle.m88_isa.specs.declared.planned.Access.{Access}
use Rattle.m88_monitor.proofs.Laws.{steps_of, three_steps}
use Rattle.m88_board.specs.Kept.{HasReadyPage}
use Rattle.m88_monitor.specs.Serving.{CanServe, CanServeTriple, Serving, after_service}

-- the pages
step_page : (absent touched : Bool) (n page : ℕ) →
    (if page == n then false else (absent && not touched)) ≡ (absent && not (n == page || touched))
step_page absent touched n page = by_test (page == n)
    (λ t. let e : page ≡ n = eqb-true page n t in
    let same : (n == page) ≡ true = grind (arith, nat_tests) in
    rw (t, same) (sym (and_false absent)))
    (λ f. let e : page ≢ n = eqb-false page n f in
    let other : (n == page) ≡ false = grind (arith, nat_tests) in
    rw (f, other) refl)
  where
    and_false : (b : Bool) → (b && false) ≡ false
    and_false true = refl
    and_false false = refl

and_true : (b : Bool) → b ≡ (b && true)
and_true true = refl
and_true false = refl

eq_turned : (m n : ℕ) → (m == n) ≡ (n == m)
eq_turned m n = by_test (m == n)
    (λ t. let e : m ≡ n = eqb-true m n t in
    let same : (n == m) ≡ true = grind (arith, nat_tests) in
    t ∙ sym same)
    (λ f. let e : m ≢ n = eqb-false m n f in
    let other : (n == m) ≡ false = grind (arith, nat_tests) in
    f ∙ sym other)

pages2 : (x a b : Bool) → (if b then false else (if a then false else x)) ≡ (x && not (a || (b || false)))
pages2 true true true = refl
pages2 true true false = refl
pages2 true false true = refl
pages2 true false false = refl
pages2 false true true = refl
pages2 false true false = refl
pages2 false false true = refl
pages2 false false false = refl

pages3 : (x a b c : Bool) → (if c then false else (if b then false else (if a then false else x))) ≡ (x && not (a || (b || (c || false))))
pages3 true true true true = refl
pages3 true true true false = refl
pages3 true true false true = refl
pages3 true true false false = refl
pages3 true false true true = refl
pages3 true false true false = refl
pages3 true false false true = refl
pages3 true false false false = refl
pages3 false true true true = refl
pages3 false true true false = refl
pages3 false true false true = refl
pages3 false true false false = refl
pages3 false false true true = refl
pages3 false false true false = refl
pages3 false false false true = refl
pages3 false false false false = refl

steps_absent : (xs : List Access) (s : Serving) → length xs ≤ 3 →
    (steps_of xs s).absent ≡ (λ page. s.absent page && not (touches_page xs page))
unfolding steps_of
steps_absent [] s few = fun_ext (λ page. and_true (s.absent page))
steps_absent (a ∷ []) s few = fun_ext (λ page.
    ap (λ (t : Bool). if page == page_number a.addr then false else t) (and_true (s.absent page))
    ∙ step_page (s.absent page) false (page_number a.addr) page)
steps_absent (a ∷ b ∷ []) s few = fun_ext (λ page.
    pages2 (s.absent page) (page == page_number a.addr) (page == page_number b.addr)
    ∙ ap (λ (t : Bool). s.absent page && not (t || (page == page_number b.addr || false))) (eq_turned page (page_number a.addr))
    ∙ ap (λ (t : Bool). s.absent page && not (page_number a.addr == page || (t || false))) (eq_turned page (page_number b.addr)))
steps_absent (a ∷ b ∷ c ∷ []) s few = fun_ext (λ page.
    pages3 (s.absent page) (page == page_number a.addr) (page == page_number b.addr) (page == page_number c.addr)
    ∙ ap (λ (t : Bool). s.absent page && not (t || (page == page_number b.addr || (page == page_number c.addr || false)))) (eq_turned page (page_number a.addr))
    ∙ ap (λ (t : Bool). s.absent page && not (page_number a.addr == page || (t || (page == page_number c.addr || false)))) (eq_turned page (page_number b.addr))
    ∙ ap (λ (t : Bool). s.absent page && not (page_number a.addr == page || (page_number b.addr == page || (t || false)))) (eq_turned page (page_number c.addr)))
steps_absent (a ∷ b ∷ c ∷ d ∷ xs) s few = absurd (omega arith)

-- each pending transaction can be served
at_place : (P : Access → Type 0) (xs : List Access) (k : ℕ) → All P xs → IfSome (slice_get xs k) P
at_place P [] k h = tt
at_place P (x ∷ xs) zero h = All-head P x xs h
at_place P (x ∷ xs) (suc k) h = at_place P xs k (All-tail P x xs h)

from_access : (ready : ℕ → Bool) (o : Option Access) → IfSome o IsWordAccess → IfSome o (HasReadyPage ready) →
    CanServeTriple ready (triple_or_none o)
from_access ready None made prepared = λ v. absurd cc
from_access ready (Some a) made prepared = λ v.
    subst (λ (x : Access). CanServe ready x) (sym (told_of a made))
    (record { word = made.0; enable = made.1; prepared = prepared })

pub can_serve : (ready : ℕ → Bool) (xs : List Access) (k : ℕ) (t : Triple) → t ≡ triple_or_none (slice_get xs k) →
    All IsWordAccess xs →
    All (HasReadyPage ready) xs →
    CanServeTriple ready t
can_serve ready xs k t e made prepared =
    subst (λ (u : Triple). CanServeTriple ready u) (sym e)
    (from_access ready (slice_get xs k) (at_place IsWordAccess xs k made) (at_place (HasReadyPage ready) xs k prepared))

-- all together
pub served_absent : (xs : List Access) (s : Serving) →
    s.control.t0 ≡ triple_or_none (slice_get xs 0) →
    s.control.t1 ≡ triple_or_none (slice_get xs 1) →
    s.control.t2 ≡ triple_or_none (slice_get xs 2) →
    All IsWordAccess xs →
    length xs ≤ 3 →
    (after_service s).absent ≡ (λ page. s.absent page && not (touches_page xs page))
served_absent xs s e0 e1 e2 made few =
    ap (λ (u : Serving). u.absent) (three_steps xs s e0 e1 e2 made) ∙ steps_absent xs s few
