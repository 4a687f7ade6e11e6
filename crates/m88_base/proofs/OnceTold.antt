-- What is accepted or refused has one verdict.
use Rattle.std.proofs.Common.{◌≡◌, ◌⊎◌, inl, inr, refl}
use Rattle.m88_base.specs.OneVerdict.{HasOneFaultUnless}

-- what is accepted or refused, never both, and refused for one reason, has one verdict
pub told_once : {Accepted Reason : Type 0} (IsReason : Reason → Type 0) → Accepted ⊎ ((r : Reason) × IsReason r)
    → ((r : Reason) → Accepted → IsReason r → ⊥) → ((r s : Reason) → IsReason r → IsReason s → r ≡ s)
    → HasOneFaultUnless Accepted IsReason
told_once IsReason either not_both one = record {
  some = elim either [
    | inl accepted ↦ inl (tt, accepted)
    | inr refused ↦ inr refused
  ];
  not_both = λ value r accepted refused. not_both r accepted refused;
  one_value = λ a b h k. refl;
  one_fault = one;
}
