-- What is left is where the way goes on.
use Rattle.std.proofs.Common.{◌≡◌, ℕ, List, Some, IfSome, IsTrue}
use Rattle.std.specs.FinSet.{contains}
use Rattle.m88_sourcing.specs.Code.{HasInstruction}
use Rattle.m88_sourcing.specs.Inside.Walks.{AreRest, IsClosed, IsReachedIfCode, IsWalkSound, Keeps}
use Rattle.m88_sourcing.proofs.reaching.follow_way.Given as goal

abbrev pub invariant-loop : goal.invariant-loop
invariant-loop l = record {
  rest : AreRest l.image l.at l.bytes;
  closed : IsClosed l.image l.walk (λ b. l.next ≡ Some b);
  sound : (seeds : List ℕ) → IsWalkSound l.image seeds l.fn.walk → IsReachedIfCode l.image seeds l.head
      → IsWalkSound l.image seeds l.walk × IfSome l.next (IsReachedIfCode l.image seeds);
  keeps : Keeps l.fn.walk l.walk;
  found : HasInstruction l.image l.head → IsTrue (contains l.walk.outline.code l.head);
}
