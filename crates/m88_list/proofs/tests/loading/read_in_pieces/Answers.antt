-- One piece more.
use Rattle.std.proofs.Common.{◌≡◌, ◌++◌, ℕ, List, length, take, ap, ◌∙◌, append_assoc, arith, length-append}
use Rattle.std.proofs.lemmas.List.{take-append-drop}
use Rattle.m88_list.proofs.tests.loading.read_in_pieces.Goals as goal

pub loop-rest-preserved : goal.loop-rest-preserved
loop-rest-preserved c =
    let before = c.loop-rest.invariant.fed in
    let piece : List ℕ = c.split_at.result.0.now in
    let behind : List ℕ = c.split_at.result.1.now in
    let joined : piece ++ behind ≡ c.loop-rest.rest.now =
    ap (λ (xs : List ℕ). xs ++ behind) c.split_at.ensures.front
    ∙ ap (λ (xs : List ℕ). take c.min.result c.loop-rest.rest.now ++ xs) c.split_at.ensures.back
    ∙ take-append-drop c.min.result c.loop-rest.rest.now in
    record {
      total = omega (arith, c.feed.ensures.total, length-append piece behind, ap length joined, c.loop-rest.invariant.total);
      fed = (
        before.0 ++ piece,
        append_assoc before.0 piece behind ∙ ap (λ (xs : List ℕ). before.0 ++ xs) joined ∙ before.1,
        c.feed.ensures.fed before.0 before.2,
      );
    }
