-- The end of a range is what is behind its first address, cut at the `/`.
use Rattle.std.proofs.Common.{◌≡◌, ◌∙◌, ◌++◌, ℕ, List, Some, arith, subst, sym}
use Rattle.std.specs.Prelude.{codes}
use Rattle.m88_sourcing.specs.Places.{IsRangeEnd}
use Rattle.m88_sourcing.specs.Places.IsRangeEnd.{words, steps}
use Rattle.m88_sourcing.proofs.Wording.{if_some, range_cut}
use Rattle.m88_sourcing.proofs.place.range_from.Goals as goal

pub returns-in_err-number-in-Some-clause-only : goal.returns-in_err-number-in-Some-clause-only
returns-in_err-number-in-Some-clause-only c = λ p end.
    let cut = range_cut c.args.first c.args.text.now p _ c.in-Some.ensures.value end in
    let found = c.number.ensures.only cut.0 cut.2 in
    let none = c.in_err-number-in-Some.was in absurd cc

pub returns-in_err-number-in-Some-2-clause-only : goal.returns-in_err-number-in-Some-2-clause-only
returns-in_err-number-in-Some-2-clause-only c = λ p end.
    let cut = range_cut c.args.first c.args.text.now p _ c.in-Some.ensures.value end in
    let found = c.number-in-Some.ensures.only cut.1 cut.3 in
    let none = c.in_err-number-in-Some-2.was in absurd cc

pub returns-in_err-number-in-None-clause-only : goal.returns-in_err-number-in-None-clause-only
returns-in_err-number-in-None-clause-only c = λ p end.
    let cut = range_cut c.args.first c.args.text.now p _ c.in-None.ensures.value end in
    let found = c.number-in-None.ensures.only cut.0 cut.1 in
    let none = c.in_err-number-in-None.was in absurd cc

pub returns-in_ok-number-in-Some-2-clause-found : goal.returns-in_ok-number-in-Some-2-clause-found
returns-in_ok-number-in-Some-2-clause-found c =
    if_some c.up_to.result _ _
    (λ p h. subst (λ (t : List ℕ). IsRangeEnd c.args.first t p) (sym c.in-Some.ensures.found)
    (subst (IsRangeEnd c.args.first (c.in-Some.last.now ++ (codes "/" ++ c.in-Some.step.now))) (sym h.0)
    (steps c.in_ok-number-in-Some.ensures.found c.in_ok-number-in-Some-2.ensures.found h.1 h.2)))
    c.up_to.ensures.found

pub returns-in_ok-number-in-Some-2-clause-only : goal.returns-in_ok-number-in-Some-2-clause-only
returns-in_ok-number-in-Some-2-clause-only c = λ p end.
    let cut = range_cut c.args.first c.args.text.now p _ c.in-Some.ensures.value end in
    let last : Some c.in_ok-number-in-Some.field-0 ≡ Some cut.0 =
    sym c.in_ok-number-in-Some.was ∙ c.number.ensures.only cut.0 cut.2 in
    let step : Some c.in_ok-number-in-Some-2.field-0 ≡ Some cut.1 =
    sym c.in_ok-number-in-Some-2.was ∙ c.number-in-Some.ensures.only cut.1 cut.3 in
    let same : c.in_ok-number-in-Some.field-0 ≡ cut.0 = cc in
    let apart : c.in_ok-number-in-Some-2.field-0 ≡ cut.1 = cc in
    let found = c.up_to.ensures.only (omega (arith, same, cut.4)) (omega (arith, apart, cut.5)) in
    let places = cut.6 in cc

pub returns-in_ok-number-in-None-clause-found : goal.returns-in_ok-number-in-None-clause-found
returns-in_ok-number-in-None-clause-found c =
    if_some c.up_to-in-None.result _ _
    (λ p h. subst (IsRangeEnd c.args.first c.args.text.now) (sym h.0) (words c.in_ok-number-in-None.ensures.found h.1))
    c.up_to-in-None.ensures.found

pub returns-in_ok-number-in-None-clause-only : goal.returns-in_ok-number-in-None-clause-only
returns-in_ok-number-in-None-clause-only c = λ p end.
    let cut = range_cut c.args.first c.args.text.now p _ c.in-None.ensures.value end in
    let last : Some c.in_ok-number-in-None.field-0 ≡ Some cut.0 =
    sym c.in_ok-number-in-None.was ∙ c.number-in-None.ensures.only cut.0 cut.1 in
    let same : c.in_ok-number-in-None.field-0 ≡ cut.0 = cc in
    let found = c.up_to-in-None.ensures.only (omega (arith, same, cut.2)) (omega arith) in
    let places = cut.3 in cc
