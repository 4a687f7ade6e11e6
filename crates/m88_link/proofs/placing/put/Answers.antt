-- The addresses of a section are free before it is put, and the image has its bytes then.
use Rattle.std.proofs.Common.{◌∙◌, ap, arith, length}
use Rattle.std.proofs.lemmas.List.Sums.{sum_by_more}
use Rattle.m88_base.specs.Image.{byte_at}
use Rattle.m88_base.specs.Placed.{Placed}
use Rattle.m88_link.proofs.Imaged.{free_before, put_more}
use Rattle.m88_link.proofs.placing.put.Goals as goal

pub put_one-requires-clause-free : goal.put_one-requires-clause-free
put_one-requires-clause-free c =
    λ a within.
    c.loop-spot.invariant.0 a
    ∙ free_before c.args.spots.now c.loop-spot.spot-index c.spot-item.result (omega arith) c.spot-item.is c.requires.alone a within.0 within.1

pub loop-spot-preserved : goal.loop-spot-preserved
loop-spot-preserved c =
    let spots = c.args.spots.now in
    let i = c.loop-spot.spot-index in
    let p = c.spot-item.result in
    let inv = c.loop-spot.invariant in (
      put_more spots i p (omega arith) c.spot-item.is (byte_at c.loop-spot.image) (byte_at c.put_one.new.image) c.requires.alone inv.0 c.in_ok-put_one.ensures.bytes,
      omega (
        arith,
        c.in_ok-put_one.ensures.count,
        inv.1,
        sum_by_more (λ (x : Placed). length x.bytes) spots i p (omega arith),
        ap (λ (x : Placed). length x.bytes) c.spot-item.is,
      ),
      c.put_one.ensures.start ∙ inv.2,
    )
