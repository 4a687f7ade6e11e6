-- Zeros, or bytes of the image.
use Rattle.std.proofs.Common.{◌≡◌, ◌+◌, arith, length}
use Rattle.m88_pager.proofs.Pieces.{rest_filled, some_more, zeros_more}
use Rattle.m88_pager.proofs.original.append_piece.Goals as goal

pub returns-in-None : goal.returns-in-None
returns-in-None c =
    let room = c.requires.room in
    let len = c.len.ensures in
    let long = c.args.bytes.now.ok.0 in
    let at : c.args.start + c.len.result ≡ c.args.start + length c.args.bytes.now.items = omega (arith, len, long) in
    zeros_more c.args.image.now c.args.start (c.args.start + c.len.result) c.args.bytes.now.items c.append_zeros.new.bytes.items
    c.append_zeros.result c.append_zeros.ensures at (λ a low high. c.in-None.ensures.free a (low, high))
    (omega (arith, room, len, long)) (omega (arith, room, len, long))

pub returns-in-Some : goal.returns-in-Some
returns-in-Some c =
    let room = c.requires.room in
    let len = c.len.ensures in
    let long = c.args.bytes.now.ok.0 in
    let taken = c.in-Some.ensures.taken in
    let below = taken.0.1 in
    let more = c.if-taken-at.true in
    let at : c.args.start + c.len.result ≡ c.args.start + length c.args.bytes.now.items = omega (arith, len, long) in
    zeros_more c.args.image.now c.args.start (c.args.start + c.len.result) c.args.bytes.now.items c.append_zeros-in-Some.new.bytes.items
    c.append_zeros-in-Some.result c.append_zeros-in-Some.ensures at (λ a low high. taken.2 a low (omega (arith, high, more)))
    (omega (arith, more)) (omega (arith, room, len, long, below, more))

pub returns-in-Some-2 : goal.returns-in-Some-2
returns-in-Some-2 c =
    let room = c.requires.room in
    let len = c.len.ensures in
    let long = c.args.bytes.now.ok.0 in
    let taken = c.in-Some.ensures.taken in
    let at : c.args.start + c.len.result ≡ c.args.start + length c.args.bytes.now.items = omega (arith, len, long) in
    some_more c.args.image.now c.args.start (c.args.start + c.len.result) c.args.bytes.now.items c.append_some.new.bytes.items
    c.rest.result.now c.append_some.result c.append_some.ensures at c.rest.ensures.there (omega (arith, room, len, long))
    (rest_filled c.args.image.now _ _ c.rest.result.now taken.0.0 c.if-taken-at.false taken.1 c.rest.ensures.end)
    (omega (arith, room, len, long))
