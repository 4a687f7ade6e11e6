-- One address more, and none is past the last one.
use Rattle.std.proofs.Common.{◌∙◌, ◌-◌, ◌≤◌, ◌++◌, ◌∷◌, ℕ, List, [], ap, append_assoc, arith, sym}
use Rattle.std.proofs.Math.Nat.{mul-le-mul_left}
use Rattle.m88_sourcing.specs.Places.{spaced}
use Rattle.m88_sourcing.proofs.Wording.{spaced_more}
use Rattle.m88_sourcing.proofs.place.push_places.Goals as goal

pub overflow_cast-at : goal.overflow_cast-at
overflow_cast-at c =
    let few : c.loop.counter ≤ c.args.places.count - 1 = omega arith in
    omega (arith, mul-le-mul_left c.args.places.step few, c.loop.invariant.next, c.requires)

pub loop-preserved : goal.loop-preserved
loop-preserved c =
    let p = c.args.places in
    let k = c.loop.counter in
    let next = c.loop.invariant.next in
    let was = c.in_ok-push.ensures in
    let by = c.from-at-in-loop.ensures in record {
      items = c.in_ok-push.ensures.items
          ∙ ap (λ (xs : List ℕ). xs ++ c.loop.at ∷ []) c.loop.invariant.items
          ∙ append_assoc c.args.addresses.now.items (spaced p.first p.step k) (c.loop.at ∷ [])
          ∙ ap (λ (xs : List ℕ). c.args.addresses.now.items ++ xs)
          (ap (λ (a : ℕ). spaced p.first p.step k ++ a ∷ []) next ∙ sym (spaced_more p.first p.step k));
      next = omega (arith, next, by);
    }
