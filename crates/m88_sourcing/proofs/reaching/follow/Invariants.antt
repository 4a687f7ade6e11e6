-- The first `next` heads are found, and nothing is left but the others.
use Rattle.std.proofs.Common.{◌≡◌, ◌-◌, ◌<◌, ◌^◌, ℕ, Contains, IsTrue, Some, slice_get}
use Rattle.std.specs.FinSet.{contains}
use Rattle.m88_sourcing.specs.Code.{HasInstruction}
use Rattle.m88_sourcing.specs.Inside.Walks.{IsClosed, IsWalkSound}
use Rattle.m88_sourcing.proofs.reaching.follow.Given as goal

abbrev pub invariant-loop-next : goal.invariant-loop-next
invariant-loop-next l = record {
  sound : IsWalkSound l.image l.fn.seeds.items l.walk;
  closed : IsClosed l.image l.walk (λ _. ⊥);
  seeds : (a : ℕ) → Contains l.fn.seeds.items a → Contains l.walk.heads.items a;
  done : (k b : ℕ) → k < l.next → slice_get l.walk.heads.items k ≡ Some b → HasInstruction l.image b
      → IsTrue (contains l.walk.outline.code b);
}

abbrev pub decreases-loop-next : goal.decreases-loop-next
decreases-loop-next l = 2 ^ 63 - l.next
