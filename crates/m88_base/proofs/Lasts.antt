-- Where no element that passes a test stands behind one that fails it, and the last passes it, all do.
use Rattle.std.proofs.Common.{◌≡◌, ◌-◌, ◌<◌, ◌∙◌, Bool, true, false, List, length, get_or, subst, arith}
use Rattle.std.specs.List.Sorted.{IsPartitionPoint, IsPartitionedBy}
use Rattle.std.proofs.lemmas.List.{get_or_default}

pub all_pass : {X : Type 0} (p : X → Bool) (xs : List X) (x : X) → IsPartitionedBy p xs → 0 < length xs
    → x ≡ get_or xs (length xs - 1) x → p x ≡ true
    → IsPartitionPoint (λ y. p y ≡ true) (λ y. p y ≡ false) xs (length xs)
all_pass p xs x parted some is passes = (
  λ i d low high.
      parted i (length xs - 1) d (omega (arith, high)) (omega (arith, some))
      (subst (λ y. p y ≡ true) (is ∙ get_or_default xs (length xs - 1) x d (omega (arith, some))) passes),
  λ i d low high. absurd (omega (arith, low, high)),
)
