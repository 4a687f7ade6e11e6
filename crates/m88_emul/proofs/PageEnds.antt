-- The pages of bytes one behind the other are those of the first and of the last.
use Rattle.std.specs.Prelude.{ℕ, zero, suc, Bool, true, false, not, ◌≡◌, ◌≢◌, ◌<◌, ◌≤◌, ◌-◌, ◌^◌, ◌==◌, ◌&&◌, ◌||◌, if◌then◌else◌}
use Rattle.std.proofs.Common.{arith, refl, sym, ap, ap₂, ◌∙◌}
use Rattle.std.proofs.Math.Path.{fun_ext}
use Rattle.std.proofs.lemmas.Bool.{eqb-false, eqb-true}
use Rattle.m88_base.specs.Pages.{page_number}
use Rattle.m88_isa.proofs.Laws.{by_test}
use Rattle.m88_isa.specs.Address.{after_bytes}
use Rattle.m88_emul.specs.Aid.{places_from}
use Rattle.m88_emul.specs.Timeline.{has_place_in}

after_one : (place n : ℕ) → after_bytes (after_bytes place 1) n ≡ after_bytes place (suc n)
after_one place n = omega arith

twice_first : (a b : Bool) → (a || (a || b)) ≡ (a || b)
twice_first true b = refl
twice_first false b = refl

twice_last : (a b : Bool) → (a || (b || b)) ≡ (a || b)
twice_last true b = refl
twice_last false true = refl
twice_last false false = refl

once : (a : Bool) → (a || false) ≡ (a || a)
once true = refl
once false = refl

-- the second byte lies in the page of the first or in that of the last
second_page : (place n : ℕ) → place < 2 ^ 32 → suc n < 4096 → page_number (after_bytes place 1) ≢ page_number place →
    page_number (after_bytes place 1) ≡ page_number (after_bytes place (suc n))
second_page place n small few other = omega (arith, small, few, other)

between : (place n page : ℕ) → place < 2 ^ 32 → suc n < 4096 →
    (page_number place == page || (page_number (after_bytes place 1) == page || page_number (after_bytes place (suc n)) == page))
    ≡ (page_number place == page || page_number (after_bytes place (suc n)) == page)
between place n page small few = by_test (page_number (after_bytes place 1) == page_number place)
    (λ same. ap (λ (k : ℕ). page_number place == page || (k == page || page_number (after_bytes place (suc n)) == page))
    (eqb-true (page_number (after_bytes place 1)) (page_number place) same)
    ∙ twice_first (page_number place == page) (page_number (after_bytes place (suc n)) == page))
    (λ other. ap (λ (k : ℕ). page_number place == page || (k == page || page_number (after_bytes place (suc n)) == page))
    (second_page place n small few (eqb-false (page_number (after_bytes place 1)) (page_number place) other))
    ∙ twice_last (page_number place == page) (page_number (after_bytes place (suc n)) == page))

ends : (place n page : ℕ) → place < 2 ^ 32 → n < 4096 →
    has_place_in (places_from place (suc n)) page
    ≡ (page_number place == page || page_number (after_bytes place n) == page)
unfolding places_from has_place_in
ends place zero page small few =
    let same : place ≡ after_bytes place 0 = omega (arith, small) in
    once (page_number place == page) ∙ ap (λ (k : ℕ). page_number place == page || page_number k == page) same
ends place (suc n) page small few =
    ap (λ (b : Bool). page_number place == page || b) (ends (after_bytes place 1) n page (omega arith) (omega (arith, few)))
    ∙ ap (λ (k : ℕ). page_number place == page || (page_number (after_bytes place 1) == page || page_number k == page)) (after_one place n)
    ∙ between place n page small few

pub two_pages : (place count page : ℕ) → place < 2 ^ 32 → 1 ≤ count → count ≤ 8 →
    has_place_in (places_from place count) page
    ≡ (page_number place == page || page_number (after_bytes place (count - 1)) == page)
two_pages place zero page small some few = absurd (omega (arith, some))
two_pages place (suc n) page small some few =
    let same : suc n - 1 ≡ n = omega arith in
    ends place n page small (omega (arith, few)) ∙ ap (λ (k : ℕ). page_number place == page || page_number (after_bytes place k) == page) (sym same)

-- which of them a page is
other_way : (a b : ℕ) → (a == b) ≡ (b == a)
other_way a b = by_test (a == b)
    (λ t. let e = eqb-true a b t in rw e refl)
    (λ f. let e = eqb-false a b f in by_test (b == a)
    (λ u. absurd (e (sym (eqb-true b a u))))
    (λ g. f ∙ sym g))

left_out : (first last absent : Bool) → (if last then false else if first then false else absent) ≡ absent && not (first || last)
left_out true true true = refl
left_out true true false = refl
left_out true false true = refl
left_out true false false = refl
left_out false true true = refl
left_out false true false = refl
left_out false false true = refl
left_out false false false = refl

-- both are supplied
pub both_supplied : (place count : ℕ) (absent : ℕ → Bool) → place < 2 ^ 32 → 1 ≤ count → count ≤ 8 →
    ◌≡◌ {A = ℕ → Bool}
    (λ page. if page == page_number (after_bytes place (count - 1)) then false else if page == page_number place then false else absent page)
    (λ page. absent page && not (has_place_in (places_from place count) page))
both_supplied place count absent small some few = fun_ext (λ page.
    left_out (page == page_number place) (page == page_number (after_bytes place (count - 1))) (absent page)
    ∙ ap₂ (λ a b. absent page && not (a || b)) (other_way page (page_number place)) (other_way page (page_number (after_bytes place (count - 1))))
    ∙ ap (λ b. absent page && not b) (sym (two_pages place count page small some few)))

now_ready : (first last ready : Bool) → (first || last) ≡ true → (if last then true else if first then true else ready) ≡ true
now_ready first true ready h = refl
now_ready true false ready h = refl
now_ready false false ready h = absurd cc

-- both are ready
pub both_ready : (place count page : ℕ) (ready : ℕ → Bool) → place < 2 ^ 32 → 1 ≤ count → count ≤ 8 →
    has_place_in (places_from place count) page ≡ true →
    (if page == page_number (after_bytes place (count - 1)) then true else if page == page_number place then true else ready page) ≡ true
both_ready place count page ready small some few h =
    now_ready (page == page_number place) (page == page_number (after_bytes place (count - 1))) (ready page)
    (ap₂ (λ a b. a || b) (other_way page (page_number place)) (other_way page (page_number (after_bytes place (count - 1))))
    ∙ sym (two_pages place count page small some few) ∙ h)

-- what was ready stays so
pub still_ready : (here ready : Bool) → ready ≡ true → (if here then true else ready) ≡ true
still_ready true ready h = refl
still_ready false ready h = h
