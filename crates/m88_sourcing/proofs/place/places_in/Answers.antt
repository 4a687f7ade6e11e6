-- A word of places is an address, or what stands around its `-`.
use Rattle.std.proofs.Common.{◌≡◌, ◌∙◌, ℕ, List, Some, arith, subst, sym}
use Rattle.m88_sourcing.specs.Places.{IsPlacesWord, IsRangeEnd}
use Rattle.m88_sourcing.specs.Places.IsPlacesWord.{one, range}
use Rattle.m88_sourcing.proofs.Wording.{if_some, places_cut}
use Rattle.m88_sourcing.proofs.place.places_in.Goals as goal

pub returns-in_err-number-in-Some-clause-only : goal.returns-in_err-number-in-Some-clause-only
returns-in_err-number-in-Some-clause-only c = λ p is.
    let cut = places_cut c.args.word.now p _ c.in-Some.ensures.value is in
    let found = c.number.ensures.only cut.0 cut.1 in
    let none = c.in_err-number-in-Some.was in absurd cc

pub returns-in_err-at-in-None-clause-only : goal.returns-in_err-at-in-None-clause-only
returns-in_err-at-in-None-clause-only c = λ p is.
    let cut = places_cut c.args.word.now p _ c.in-None.ensures.value is in
    let found = c.number-in-None.ensures.only cut.0 cut.1 in
    let none = c.in_err-at-in-None.was in absurd cc

pub returns-in_ok-number-in-Some-clause-found : goal.returns-in_ok-number-in-Some-clause-found
returns-in_ok-number-in-Some-clause-found c =
    if_some c.range_from.result _ _
    (λ p h. subst (λ (t : List ℕ). IsPlacesWord t p) (sym c.in-Some.ensures.found)
    (range c.in_ok-number-in-Some.ensures.found h))
    c.range_from.ensures.found

pub returns-in_ok-number-in-Some-clause-only : goal.returns-in_ok-number-in-Some-clause-only
returns-in_ok-number-in-Some-clause-only c = λ p is.
    let cut = places_cut c.args.word.now p _ c.in-Some.ensures.value is in
    let first : Some c.in_ok-number-in-Some.field-0 ≡ Some cut.0 =
    sym c.in_ok-number-in-Some.was ∙ c.number.ensures.only cut.0 cut.1 in
    let same : cut.0 ≡ c.in_ok-number-in-Some.field-0 = cc in
    c.range_from.ensures.only p (subst (λ (n : ℕ). IsRangeEnd n c.in-Some.behind.now p) same cut.2)

pub returns-in_ok-at-in-None-clause-found : goal.returns-in_ok-at-in-None-clause-found
returns-in_ok-at-in-None-clause-found c =
    if_some c.up_to.result _ _
    (λ p h. subst (IsPlacesWord c.args.word.now) (sym h.0) (one c.in_ok-at-in-None.ensures.found))
    c.up_to.ensures.found

pub returns-in_ok-at-in-None-clause-only : goal.returns-in_ok-at-in-None-clause-only
returns-in_ok-at-in-None-clause-only c = λ p is.
    let cut = places_cut c.args.word.now p _ c.in-None.ensures.value is in
    let at : Some c.in_ok-at-in-None.at ≡ Some cut.0 =
    sym c.in_ok-at-in-None.was ∙ c.number-in-None.ensures.only cut.0 cut.1 in
    let same : c.in_ok-at-in-None.at ≡ cut.0 = cc in
    let found = c.up_to.ensures.only (omega arith) (omega arith) in
    let places = cut.2 in cc
