-- What a text that is the first lines is answered, by the clauses of the check: for those who check what was written.
use Rattle.std.specs.Prelude.{ℕ, List, Option, IfErr, IfOk, Result, Ok, Err, ◌≡◌, ◌⊎◌}
use Rattle.std.proofs.Common.{inl, inr, refl}
use Rattle.m88_base.specs.OneVerdict.{HasOneVerdict}
use Rattle.m88_trace.specs.Texts.{DiffersBehind, FaultOf, IsText}
use Rattle.m88_trace.specs.declared.fault.TraceFault.{TraceFault}
use Rattle.m88_trace.specs.declared.fault.TraceFault.TheVariants.{Differs, Memory}

-- so many lines, where memory was there
pub accepted : (line : ℕ → Option (List ℕ)) (text : List ℕ) (lines : ℕ) (r : Result ℕ TraceFault) →
    IfOk r (λ n. IsText line text n) →
    IfErr r (FaultOf line text) →
    HasOneVerdict (IsText line text) (DiffersBehind line text) →
    IsText line text lines →
    (r ≡ Ok lines) ⊎ (r ≡ Err Memory)
accepted line text lines (Ok n) ok fault one is = let same : n ≡ lines = one.one_value n lines ok is in inl cc
accepted line text lines (Err Memory) ok fault one is = inr refl
accepted line text lines (Err (Differs number)) ok fault one is = absurd (one.not_both lines fault.0 is fault.2)
