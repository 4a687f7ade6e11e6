-- What there is, with the statements to come, is what all statements grow to.
use Rattle.std.proofs.Common.{inl, inr}
use Rattle.m88_asm.proofs.Resting.{rest_ends, rest_goes_on, rest_stops}
use Rattle.m88_asm.proofs.objects.lay_out.Goals as goal

pub returns-in-Err : goal.returns-in-Err
returns-in-Err c = record {
  right = tt;
  clean = tt;
  fault = elim c.in-Err.ensures.fault [
    | inl e ↦ inl e
    | inr e ↦ inr (rest_stops c.args.line c.args.statements.now c.loop-x.x-index c.loop-x.assembly c.x-item.result c.x-item.result c.in-Err.fault c.loop-x-test.true c.x-item.is c.loop-x.invariant e)
  ];
}

pub loop-x-preserved : goal.loop-x-preserved
loop-x-preserved c =
    rest_goes_on c.args.line c.args.statements.now c.loop-x.x-index c.loop-x.assembly c.add.new.self c.x-item.result c.x-item.result c.loop-x-test.true c.x-item.is c.loop-x.invariant
    c.in-Ok.ensures.right c.in-Ok.ensures.clean

pub returns : goal.returns
returns c =
    let ends = rest_ends c.args.line c.args.statements.now c.loop-x.x-index c.loop-x.assembly c.loop-x-test.false c.loop-x.invariant in
    record { right = ends.0; clean = ends.1; fault = tt }
