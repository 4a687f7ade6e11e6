-- One instruction more, behind which the next follows or doesn't, and none left.
use Rattle.std.proofs.Common.{◌≡◌, ◌+◌, ◌-◌, ◌∙◌, arith, sym, subst}
use Rattle.m88_base.specs.Image.{ProgramImage}
use Rattle.m88_isa.specs.ImageProgram.{IsProgramOf}
use Rattle.m88_handler.proofs.Running.{ends, goes_on, spent}
use Rattle.m88_handler.specs.Handled.{code_of, handling_of}
use Rattle.m88_handler.specs.Machine.{done_next}
use Rattle.m88_handler.specs.declared.cause.Course.{Course}
use Rattle.m88_handler.proofs.handler.Handler.run.Goals as goal

pub returns-in_default : goal.returns-in_default
returns-in_default c = record {
  course = λ p of.
      let of_now : IsProgramOf (code_of c.loop-done.self) p =
      subst (λ (i : ProgramImage). IsProgramOf i p) (sym c.loop-done.invariant.code) of in
      let step = c.in_ok-course.ensures.course p of_now in
      ends p (c.args.most - c.loop-done._done) (c.args.most - (c.loop-done._done + 1)) (handling_of c.loop-done.self)
      (handling_of c.step.new.self) c.in_ok-course.course (omega arith) step c.in_default.not-GoesOn
      ∙ c.loop-done.invariant.same p of;
  images = record {
    code = c.in_ok-course.ensures.stepped.code ∙ c.loop-done.invariant.code;
    base = c.in_ok-course.ensures.stepped.base ∙ c.loop-done.invariant.base;
  };
}

pub loop-done-preserved : goal.loop-done-preserved
loop-done-preserved c = record {
  here = c.in_ok-course.ensures.stepped.here;
  behind = c.in_ok-course.ensures.stepped.behind;
  room = omega (arith, c.in_ok-course.ensures.stepped.steps, c.loop-done.invariant.room);
  code = c.in_ok-course.ensures.stepped.code ∙ c.loop-done.invariant.code;
  base = c.in_ok-course.ensures.stepped.base ∙ c.loop-done.invariant.base;
  same = λ p of.
      let of_now : IsProgramOf (code_of c.loop-done.self) p =
      subst (λ (i : ProgramImage). IsProgramOf i p) (sym c.loop-done.invariant.code) of in
      let step = c.in_ok-course.ensures.course p of_now in
      goes_on p (c.args.most - c.loop-done._done) (c.args.most - (c.loop-done._done + 1)) (handling_of c.loop-done.self)
      (handling_of c.step.new.self) (omega arith)
      (subst (λ (course : Course). (course, handling_of c.step.new.self) ≡ done_next p (handling_of c.loop-done.self)) c.in-GoesOn.is step)
      ∙ c.loop-done.invariant.same p of;
}

pub returns-clause-course : goal.returns-clause-course
returns-clause-course c = λ p of.
    spent p (c.args.most - c.loop-done._done) (handling_of c.loop-done.self) (omega arith) ∙ c.loop-done.invariant.same p of
