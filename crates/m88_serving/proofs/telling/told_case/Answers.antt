-- The verdict by what was read, judged and named.
use Rattle.std.proofs.Common.{◌∙◌, [], Err, Some, ap, subst, sym}
use Rattle.m88_serving.proofs.Verdicts.{accepted, faulty, misformed, repeated}
use Rattle.m88_serving.specs.Faults.{repeated_from}
use Rattle.m88_serving.specs.Inside.Replies.{case_of}
use Rattle.m88_serving.specs.Told.{IsUntold}
use Rattle.m88_serving.proofs.telling.told_case.Goals as goal

pub returns-in-Err-Form-clause-refused : goal.returns-in-Err-Form-clause-refused
returns-in-Err-Form-clause-refused c =
    subst (IsUntold c.args.input.now) (sym c.refused.ensures)
    (misformed c.args.input.now _ ((rw c.in-Err-Form.field-0-is at c.in-Err-Form.ensures.form) ∙ ap Err (sym c.in-Err-Form.line-is)))

pub returns-in-Some-clause-refused : goal.returns-in-Some-clause-refused
returns-in-Some-clause-refused c =
    faulty c.args.input.now (case_of c.in-Ok.told) c.in-Some.fault c.in-Ok.ensures.ok (sym c.record_fault.ensures ∙ c.in-Some.is)

pub returns-in-Ok-Named-clause-ok : goal.returns-in-Ok-Named-clause-ok
returns-in-Ok-Named-clause-ok c =
    let named = rw c.in-Ok-Named.field-0-is at c.in-Ok-Named.ensures in
    accepted c.args.input.now (case_of c.in-Ok.told) c.in-Ok.ensures.ok (sym c.record_fault.ensures ∙ c.in_default.is)
    (sym (ap (repeated_from 5 []) c.as_slice.ensures.value) ∙ named.0)

pub returns-in-Ok-Twice-clause-refused : goal.returns-in-Ok-Twice-clause-refused
returns-in-Ok-Twice-clause-refused c =
    subst (IsUntold c.args.input.now) (sym c.refused-in-Ok-Twice.ensures)
    (repeated c.args.input.now (case_of c.in-Ok.told) _ c.in-Ok.ensures.ok (sym c.record_fault.ensures ∙ c.in_default.is)
    (sym (ap (repeated_from 5 []) c.as_slice.ensures.value) ∙ (rw c.in-Ok-Twice.field-0-is at c.in-Ok-Twice.ensures) ∙ ap Some c.in-Ok-Twice.line-is))
