-- As for a whole source in memory, with the bytes that were taken and fed in the place of those kept.
use Rattle.std.proofs.Common.{◌∙◌, ◌<◌, drop, length, length-take, arith}
use Rattle.m88_base.proofs.Laws.{calls_more, length_front, takes_at_most, takes_exactly}
use Rattle.m88_srec.proofs.Streamed.{refused_whole, took_more, turns_on}
use Rattle.m88_srec.proofs.stream.read_image.Goals as goal

pub returns-in-Ok-eq0-clause-refused : goal.returns-in-Ok-eq0-clause-refused
returns-in-Ok-eq0-clause-refused g c =
    let none = c.in-Ok-eq0.field-0-test in
    let some : 0 < length c.read.new.buf =
    omega (arith, c.read.auto.buf, length-take c.min-most.result c.loop.buf, c.min-most.ensures, c.loop.invariant.short) in
    refused_whole c.image_at_end.result _ _ _ c.args.max c.loop.taken c.in-Ok-eq0.field-0 c.read.new.buf
    c.loop.loader c.loop.invariant.took none c.in-Ok-eq0.ensures.bytes.0 (c.in-Ok-eq0.ensures.bytes.1 none some)
    c.loop.invariant.short c.image_at_end.ensures.refused

pub returns-then-count-max-clause-too_long : goal.returns-then-count-max-clause-too_long
returns-then-count-max-clause-too_long g c = λ _.
    takes_exactly _ _ _ c.loop.invariant.took.bytes c.read.new.buf c.in-Ok.count _ c.loop.invariant.took.taken c.in-Ok.ensures.bytes.0
    c.in-Ok.ensures.bound.0 (omega (arith, c.loop.invariant.took.size, c.in-Ok.ensures.bound, length-take c.min-most.result c.loop.buf))

pub returns-in-Err-feed_piece-clause-short : goal.returns-in-Err-feed_piece-clause-short
returns-in-Err-feed_piece-clause-short g c = λ _.
    takes_at_most _ _ _ c.loop.invariant.took.bytes c.read.new.buf c.in-Ok.count _ c.loop.invariant.took.taken c.in-Ok.ensures.bytes.0
    c.in-Ok.ensures.bound.0 (omega (arith, c.loop.invariant.took.size, c.if-count-max.false, c.loop.invariant.short))

pub loop-preserved : goal.loop-preserved
loop-preserved g c =
    let read = c.in-Ok.ensures in
    let size = length_front c.read.new.buf (drop c.min-most.result c.loop.buf) c.in-Ok.count read.bound.0 in
    record {
      short = omega (arith, c.if-count-max.false, c.loop.invariant.short);
      turns = turns_on c.loop.counter c.loop.taken c.in-Ok.count c.in-Ok.count-test.1 c.loop.invariant.turns;
      grows = read.cause ∙ c.loop.invariant.grows;
      calls = calls_more c.loop.counter _ _ _ _ (omega arith) c.loop.invariant.calls read.counted;
      total = omega (arith, c.feed_piece.ensures.total, size, c.loop.invariant.total);
      took = took_more _ _ _ c.loop.taken c.in-Ok.count c.read.new.buf (drop c.min-most.result c.loop.buf)
          c.loop.loader c.feed_piece.new.loader c.loop.invariant.took read.bytes.0 read.bound.0 c.feed_piece.ensures.fed;
    }
