-- S-records are accepted or have one refusal, never both.
use Rattle.std.proofs.Common.{◌⊎◌, ◌∙◌, ℕ, List, ap, inl, inr, refl, sym}
use Rattle.m88_base.proofs.Laws.{told_once}
use Rattle.m88_base.specs.OneVerdict.{HasOneFaultUnless}
use Rattle.m88_base.specs.Refusal.{Refusal}
use Rattle.m88_srec.specs.Refused.{IsRecords, IsRefusedRecords, srec_refusal}
use Rattle.m88_srec.proofs.Law.{one_verdict}

records_or_refusal : (text : List ℕ) → IsRecords text ⊎ ((r : Refusal) × IsRefusedRecords text r)
records_or_refusal text = elim (one_verdict text).some [
  | inl accepted ↦ inl accepted
  | inr fault ↦ inr (srec_refusal fault.0, record { fault = fault.0; is_first = fault.1; refusal = refl })
]

pub one_refusal : (text : List ℕ) → HasOneFaultUnless (IsRecords text) (IsRefusedRecords text)
one_refusal text = told_once (IsRefusedRecords text) (records_or_refusal text)
    (λ r accepted refused. (one_verdict text).not_both accepted.0 refused.fault accepted.1 refused.is_first)
    (λ r s a b. a.refusal ∙ ap srec_refusal ((one_verdict text).one_fault a.fault b.fault a.is_first b.is_first) ∙ sym b.refusal)
