-- What is told, by its parts, or the first of their refusals.
use Rattle.std.proofs.Common.{◌∙◌, ◌+◌, [], Err, ap, subst, sym}
use Rattle.std.proofs.lemmas.Result.{err_from_is_err_and}
use Rattle.std.specs.Prelude.{replicate}
use Rattle.m88_base.specs.Lines.{lines_of}
use Rattle.m88_serving.specs.Faults.{repeated_from}
use Rattle.m88_serving.specs.Told.{case_told}
use Rattle.m88_entries.specs.Told.{given_by, told_verdict}
use Rattle.m88_entries.specs.ToldFaults.{IsUntoldAt}
use Rattle.m88_entries.proofs.Tellings.{refused_form, refused_twice, told_all, untold_first}
use Rattle.m88_entries.proofs.told.told_fault.Goals as goal

pub returns-in_err-case-clause-refused : goal.returns-in_err-case-clause-refused
returns-in_err-case-clause-refused c =
    let p = err_from_is_err_and c.from_residual.result c.from_residual.ensures.1 in
    let parts = c.parts_of-parts.ensures in
    rw (p.1, p.2) (untold_first c.args.before.now c.parts_of-parts.result.front.now c.parts_of-parts.result.rest.now c.parts_of-parts.result.lines parts.front parts.rest
    parts.lines c.in_err-case.field-0.0 c.in_err-case.ensures.refused)

pub returns-in-Err-Form-clause-refused : goal.returns-in-Err-Form-clause-refused
returns-in-Err-Form-clause-refused c =
    let parts = c.parts_of-parts.ensures in
    subst (IsUntoldAt (told_verdict (lines_of c.args.before.now))) (sym c.refused.ensures)
    (refused_form c.args.before.now c.parts_of-parts.result.front.now c.parts_of-parts.result.rest.now c.parts_of-parts.result.lines parts.front parts.rest parts.lines
    (case_told c.in_ok-case.case) _ c.in_ok-case.ensures.ok
    ((rw c.in-Err-Form.field-0-is at c.in-Err-Form.ensures.form) ∙ ap Err (sym c.in-Err-Form.line-is)))

pub returns-in-Err-clause-refused : goal.returns-in-Err-clause-refused
returns-in-Err-clause-refused c =
    let parts = c.parts_of-parts.ensures in
    subst (IsUntoldAt (told_verdict (lines_of c.args.before.now))) (sym c.refused-in-Err.ensures)
    (refused_twice c.args.before.now c.parts_of-parts.result.front.now c.parts_of-parts.result.rest.now c.parts_of-parts.result.lines parts.front parts.rest parts.lines
    (case_told c.in_ok-case.case) c.in-Ok.words.items _ c.in_ok-case.ensures.ok c.in-Ok.ensures.ok
    (sym (ap (repeated_from (c.parts_of-parts.result.lines + 1) []) c.as_slice.ensures.value) ∙ c.in-Err.ensures.twice))

pub returns-in-Ok-given_by-clause-ok : goal.returns-in-Ok-given_by-clause-ok
returns-in-Ok-given_by-clause-ok c =
    let parts = c.parts_of-parts.ensures in
    told_all c.args.before.now c.parts_of-parts.result.front.now c.parts_of-parts.result.rest.now c.parts_of-parts.result.lines parts.front parts.rest parts.lines
    (case_told c.in_ok-case.case) c.in-Ok.words.items c.in-Ok-given_by.given c.in_ok-case.ensures.ok c.in-Ok.ensures.ok
    (sym (ap (repeated_from (c.parts_of-parts.result.lines + 1) []) c.as_slice.ensures.value) ∙ c.in-Ok-given_by.ensures.once)
    (c.in-Ok-given_by.ensures.given ∙ ap (given_by (replicate 32 0)) c.as_slice.ensures.value)
