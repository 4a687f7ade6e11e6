use Rattle.std.proofs.Common.{◌∙◌, ℕ, List, length-take, drop, arith}
use Rattle.m88_base.proofs.Calls.{calls_more}
use Rattle.m88_base.proofs.Known.{consumes_front, kept_below, length_front, one_more_turn, takes_exactly, takes_at_most}
use Rattle.m88_base.proofs.reading.read_all.Goals as goal

pub returns-then-count-max-clause-too_long : goal.returns-then-count-max-clause-too_long
returns-then-count-max-clause-too_long g c = λ _.
    takes_exactly _ _ _ c.loop.bytes.items c.read.new.buf c.in-Ok.count _ c.loop.invariant.taken c.in-Ok.ensures.bytes.0
    c.in-Ok.ensures.bound.0 (omega (arith, c.loop.bytes.ok.0, c.in-Ok.ensures.bound, length-take c.min-most.result c.loop.buf))

pub returns-in_err-extend_from_slice-in-Ok-clause-short : goal.returns-in_err-extend_from_slice-in-Ok-clause-short
returns-in_err-extend_from_slice-in-Ok-clause-short g c = λ _.
    takes_at_most _ _ _ c.loop.bytes.items c.read.new.buf c.in-Ok.count _ c.loop.invariant.taken c.in-Ok.ensures.bytes.0
    c.in-Ok.ensures.bound.0 (omega (arith, c.loop.bytes.ok.0, c.in-Ok.ensures.bound))

pub loop-preserved : goal.loop-preserved
loop-preserved g c =
    let more = c.in_ok-extend_from_slice-in-Ok.ensures in
    let read = c.in-Ok.ensures in
    let rest : List ℕ = drop c.min-most.result c.loop.buf in
    let size = length_front c.read.new.buf rest c.in-Ok.count read.bound.0 in
    record {
      short = kept_below _ _ _ _ _ _ more.len size c.len-in-Ok.ensures c.if-count-max.false c.loop.invariant.short;
      turns = one_more_turn _ _ _ _ _ more.len size c.in-Ok.count-test.1 c.loop.invariant.turns;
      grows = read.cause ∙ c.loop.invariant.grows;
      calls = calls_more c.loop.counter _ _ _ _ (omega arith) c.loop.invariant.calls read.counted;
      taken = rw more.items (consumes_front _ _ _ c.loop.bytes.items c.read.new.buf rest c.in-Ok.count c.loop.invariant.taken read.bytes.0 read.bound.0);
    }
