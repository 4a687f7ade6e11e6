-- The address stands before the blank and the number behind it.
use Rattle.m88_session.proofs.ScriptLines.{are_parts}
use Rattle.m88_session.proofs.script_line.place_and_count.Goals as goal

pub returns-in_err-address-clause-only : goal.returns-in_err-address-clause-only
returns-in_err-address-clause-only c = λ address count is.
    let parts = are_parts c.args.text.now c.in_ok-place.place.now c.in_ok-place.digits.now address count
    c.in_ok-place.ensures.found c.in_ok-place.ensures.before is in
    let told = c.place_in.ensures.only address parts.is_place in
    let none = c.in_err-address.was in
    cc

pub returns-in_err-count-clause-only : goal.returns-in_err-count-clause-only
returns-in_err-count-clause-only c = λ address count is.
    let parts = are_parts c.args.text.now c.in_ok-place.place.now c.in_ok-place.digits.now address count
    c.in_ok-place.ensures.found c.in_ok-place.ensures.before is in
    let told = c.count_in.ensures.only count parts.is_count in
    let none = c.in_err-count.was in
    cc

pub returns-clause-only : goal.returns-clause-only
returns-clause-only c = λ address count is.
    let parts = are_parts c.args.text.now c.in_ok-place.place.now c.in_ok-place.digits.now address count
    c.in_ok-place.ensures.found c.in_ok-place.ensures.before is in
    let told = c.place_in.ensures.only address parts.is_place in
    let tells = c.count_in.ensures.only count parts.is_count in
    let was = c.in_ok-address.was in
    let had = c.in_ok-count.was in
    cc
