-- One byte more.
use Rattle.std.proofs.Common.{ap, arith, length}
use Rattle.m88_srec.specs.Inside.Taking.{begun_seen}
use Rattle.m88_srec.proofs.Whole.{byte_stops_first, byte_taken_first}
use Rattle.m88_srec.proofs.so_far.TextSoFar.first.Goals as goal

pub returns-in-Ok : goal.returns-in-Ok
returns-in-Ok c = record {
  taken = byte_taken_first c.args.rest.now c.in-Some.left.now c.in-Some.byte.now (begun_seen c.args.self.now)
      (begun_seen c.byte.new.self) c.in-Some.ensures.cases.0 c.in-Ok.ensures.value;
  stopped = tt;
  shorter = omega (arith, ap length c.in-Some.ensures.cases.0);
  within = omega (arith, ap length c.in-Some.ensures.cases.0, c.in-Ok.ensures.within);
  counted = c.in-Ok.ensures.counted;
}

pub returns-in-Err : goal.returns-in-Err
returns-in-Err c = record {
  taken = tt;
  stopped = byte_stops_first c.args.rest.now c.in-Some.left.now c.in-Some.byte.now (begun_seen c.args.self.now)
      c.in-Err.kind c.in-Some.ensures.cases.0 c.in-Err.ensures.value;
  shorter = tt;
  within = tt;
  counted = tt;
}
