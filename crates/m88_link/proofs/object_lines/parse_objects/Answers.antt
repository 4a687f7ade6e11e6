-- A line without its LF and one that is refused are of the wrong form; one that is taken leaves the rest to read.
use Rattle.std.proofs.Common.{inr, arith, length}
use Rattle.m88_link.proofs.LineTurns.{given_objects, has_refused, has_taken, left_none, left_over, line_refused, line_taken, line_unended, lines_ended}
use Rattle.m88_link.proofs.object_lines.parse_objects.Goals as goal

pub returns-in_default : goal.returns-in_default
returns-in_default c =
    inr (line_unended c.loop-rest.number c.loop-rest.progress c.loop-rest.rest.now _ c.loop-rest.invariant.same
    (left_over c.is_empty.result (length c.loop-rest.rest.now) c.is_empty.ensures c.loop-rest-test.true) c.in_default.ensures.value)

pub returns-then-not-branch : goal.returns-then-not-branch
returns-then-not-branch c =
    inr (line_refused c.loop-rest.number c.loop-rest.progress c.loop-rest.rest.now _ c.loop-rest.invariant.same
    c.in-Some.line.now c.in-Some.behind.now c.in-Some.ensures.value
    (has_refused c.in_ok-line.field-0 c.line.new.self _ c.in_ok-line.ensures c.if-not-branch.true))

pub loop-rest-preserved : goal.loop-rest-preserved
loop-rest-preserved c = record {
  same =
      line_taken c.loop-rest.number c.loop-rest.progress c.loop-rest.rest.now _ c.loop-rest.invariant.same
      c.in-Some.line.now c.in-Some.behind.now c.line.new.self c.in-Some.ensures.value
      (has_taken c.in_ok-line.field-0 c.line.new.self _ c.in_ok-line.ensures c.if-not-branch.false);
  small = omega (arith, c.in-Some.ensures.shorter);
}

pub returns : goal.returns
returns c =
    let none = left_none c.is_empty.result (length c.loop-rest.rest.now) c.is_empty.ensures c.loop-rest-test.false in
    given_objects (λ v. v.items) c.finish.result _ _
    (lines_ended c.loop-rest.number c.loop-rest.progress c.loop-rest.rest.now _ c.loop-rest.invariant.same none)
    c.finish.ensures
