use Rattle.std.proofs.Common.{◌≡◌, ◌<◌, ◌+◌, refl, sym, inl, inr, ◌^◌, length, arith, rules}
use Rattle.std.proofs.lemmas.Grind.{common_steps}
use Rattle.m88_base.specs.Image.{byte_at, byte_count, most_bytes}
use Rattle.m88_base.proofs.SameRuns.{puts_bytes}
use Rattle.m88_base.proofs.image.Image.add.Goals.{In_ok-place}
use Rattle.m88_base.proofs.image.Image.add.Goals as goal

pub returns-then-is_too_large-clause-too_large : goal.returns-then-is_too_large-clause-too_large
returns-then-is_too_large-clause-too_large c = (λ _. c.if-is_too_large.ensures.0 refl, λ _. refl)

pub returns-then-is_empty-clause-too_large : goal.returns-then-is_empty-clause-too_large
returns-then-is_empty-clause-too_large c = (λ e. absurd (cc), λ x. absurd (let f = c.if-is_too_large.ensures.1 x in cc))

pub returns-in-Some-clause-too_large : goal.returns-in-Some-clause-too_large
returns-in-Some-clause-too_large c = (λ e. absurd (cc), λ x. absurd (let f = c.if-is_too_large.ensures.1 x in cc))

pub returns-in-Some-clause-overlap : goal.returns-in-Some-clause-overlap
unfolding byte_at
returns-in-Some-clause-overlap c = rw (← c.self.view_is) c.in-Some.ensures.taken

-- the number that the image keeps is the number of its bytes
counted_bytes : (c : In_ok-place) → byte_count c.args.self.now ≡ c.self.inside.len
unfolding byte_count
counted_bytes c = rw (← c.self.view_is) (sym c.self.invariant.0)

pub invariant_of-self-2 : goal.invariant_of-self-2
invariant_of-self-2 c =
    let many : most_bytes < byte_count c.args.self.now + length c.args.bytes.now → ⊥ =
    λ p. absurd (let f = c.if-is_too_large.ensures.1 (inr p) in cc) in
    let placed = c.in_ok-place.ensures.ok in
    let far : 2 ^ 32 < c.args.at + length c.args.bytes.now → ⊥ =
    λ p. absurd (let f = c.if-is_too_large.ensures.1 (inl p) in cc) in
    let bytes = puts_bytes _ _ c.args.at c.args.bytes.now c.self.invariant.2 (omega (arith, far)) (λ k p. (c.type_inv.bytes k).fits) placed.puts in (
      omega (arith, placed.count, c.self.invariant.0),
      omega (arith, many, counted_bytes ((goal.at.invariant_of-self-2 c).In_ok-place)),
      bytes,
      c.self.invariant.3,
      placed.apart,
    )

pub returns-clause-ok : goal.returns-clause-ok
unfolding byte_at
returns-clause-ok c = rw (← c.self.view_is) c.in_ok-place.ensures.ok.puts

pub returns-clause-len : goal.returns-clause-len
unfolding byte_count
returns-clause-len c = rw (← c.self.view_is) c.in_ok-place.ensures.ok.count

pub returns-clause-free : goal.returns-clause-free
unfolding byte_at
returns-clause-free c = rw (← c.self.view_is) (search rules)

pub returns-then-is_too_large-clause-overlap : goal.returns-then-is_too_large-clause-overlap
returns-then-is_too_large-clause-overlap c = grind (arith, common_steps)

pub returns-then-is_empty-clause-overlap : goal.returns-then-is_empty-clause-overlap
returns-then-is_empty-clause-overlap c = grind (arith, common_steps)

pub returns-in_err-place-clause-too_large : goal.returns-in_err-place-clause-too_large
returns-in_err-place-clause-too_large c = grind (arith, common_steps)

pub returns-in_err-place-clause-overlap : goal.returns-in_err-place-clause-overlap
returns-in_err-place-clause-overlap c = grind (arith, common_steps)

pub returns-clause-too_large : goal.returns-clause-too_large
returns-clause-too_large c = grind (arith, common_steps)

pub returns-clause-overlap : goal.returns-clause-overlap
returns-clause-overlap c = grind (arith, common_steps)
