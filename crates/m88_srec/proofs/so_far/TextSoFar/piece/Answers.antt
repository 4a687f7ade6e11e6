-- Bit by bit, to the end or to the first fault.
use Rattle.std.proofs.Common.{sym, ◌∙◌, length, eqb-true, arith}
use Rattle.m88_srec.specs.Inside.Taking.{begun_seen}
use Rattle.m88_srec.proofs.Whole.{all_taken, more_taken, none_taken, stopped_there}
use Rattle.m88_srec.proofs.so_far.TextSoFar.piece.Goals as goal

pub loop-rest-init : goal.loop-rest-init
loop-rest-init c = record {
  taken = none_taken c.args.piece.now (begun_seen c.args.self.now);
  reach = omega arith;
  counted = c.requires.counted;
}

pub loop-rest-preserved : goal.loop-rest-preserved
loop-rest-preserved c = record {
  taken = more_taken c.args.piece.now c.loop-rest.rest.now c.in-Ok.left.now (begun_seen c.args.self.now) (begun_seen c.loop-rest.self)
      (begun_seen c.next.new.self) c.loop-rest.invariant.taken c.in-Ok.ensures.taken;
  reach = omega (arith, c.in-Ok.ensures.within, c.loop-rest.invariant.reach);
  counted = c.in-Ok.ensures.counted;
}

pub returns-in-Err : goal.returns-in-Err
returns-in-Err c = record {
  begun = tt;
  fault = stopped_there c.args.piece.now c.loop-rest.rest.now (begun_seen c.args.self.now) (begun_seen c.loop-rest.self)
      c.in-Err.kind c.fault_at.result c.loop-rest.invariant.taken c.in-Err.ensures.stopped c.fault_at.ensures;
  within = tt;
  counted = tt;
}

pub returns : goal.returns
returns c = record {
  begun = all_taken c.args.piece.now c.loop-rest.rest.now (begun_seen c.args.self.now) (begun_seen c.loop-rest.self)
      c.loop-rest.invariant.taken (eqb-true (length c.loop-rest.rest.now) 0 (sym c.is_empty.ensures ∙ c.loop-rest-test.false));
  fault = tt;
  within = omega (arith, c.loop-rest.invariant.reach);
  counted = c.loop-rest.invariant.counted;
}
