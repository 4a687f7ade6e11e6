use Rattle.std.proofs.Common.{arith}
use Rattle.std.proofs.lemmas.Grind.{common_steps}
use Rattle.m88_base.proofs.Calls.{calls_more}
use Rattle.m88_base.proofs.Known.{appends_next}
use Rattle.m88_base.proofs.writing.write_all.Goals as goal

pub loop-written-preserved : goal.loop-written-preserved
loop-written-preserved g c = record {
  short = omega (arith, c.in-Ok.ensures.bound);
  grows = omega (arith, c.in-Ok.ensures.cause);
  calls = calls_more c.loop-written.written _ _ _ _ (omega (arith, c.in-Ok.ensures.bound)) c.loop-written.invariant.calls c.in-Ok.ensures.counted;
  given = appends_next _ _ _ c.args.bytes.now c.loop-written.written c.in-Ok.count _ c.loop-written.invariant.given c.in-Ok.ensures.bytes
      c.in-Ok.ensures.bound.1;
}

pub returns-clause-ok : goal.returns-clause-ok
returns-clause-ok g c = grind (arith, common_steps)
