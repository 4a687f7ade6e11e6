-- An input of a session is accepted or has one refusal, never both.
use Rattle.std.proofs.Common.{ℕ, List, ap, inl, inr, refl, sym, ◌∙◌, ◌≡◌, subst}
use Rattle.std.specs.Prelude.{◌⊎◌}
use Rattle.m88_asm.proofs.Laws.{program_or_refusal, not_linked, same_program_refusal}
use Rattle.m88_asm.specs.Sources.{IsProgramSource, IsRefusedProgram}
use Rattle.m88_base.proofs.Laws.{told_once}
use Rattle.m88_base.specs.OneVerdict.{HasOneFaultUnless}
use Rattle.m88_base.specs.Refusal.{Refusal}
use Rattle.m88_session.specs.Monitoring.{IsMonitorInput, IsRefusedMonitor}
use Rattle.m88_session.specs.Script.{ScriptParts, script_refusal}
use Rattle.m88_session.proofs.OneScript as scripts

-- an input that is refused isn't accepted
not_accepted : (input : List ℕ) (r : Refusal) → IsMonitorInput input → IsRefusedMonitor input r → ⊥
not_accepted input r accepted (inl none) = (scripts.one_verdict input).not_both accepted.parts none.line accepted.is_script none.has_none
not_accepted input r accepted (inr refused) =
    let same = (scripts.one_verdict input).one_value accepted.parts refused.parts accepted.is_script refused.is_script in
    not_linked refused.parts.lines refused.parts.source r
    (subst (λ (s : ScriptParts). IsProgramSource s.source) same accepted.is_program) refused.is_refused

-- and has one refusal
refused_once : (input : List ℕ) (r s : Refusal) → IsRefusedMonitor input r → IsRefusedMonitor input s → r ≡ s
refused_once input r s (inl a) (inl b) =
    a.refusal ∙ ap script_refusal ((scripts.one_verdict input).one_fault a.line b.line a.has_none b.has_none) ∙ sym b.refusal
refused_once input r s (inl a) (inr b) = absurd ((scripts.one_verdict input).not_both b.parts a.line b.is_script a.has_none)
refused_once input r s (inr a) (inl b) = absurd ((scripts.one_verdict input).not_both a.parts b.line a.is_script b.has_none)
refused_once input r s (inr a) (inr b) =
    let same = (scripts.one_verdict input).one_value a.parts b.parts a.is_script b.is_script in
    same_program_refusal b.parts.lines b.parts.source r s
    (subst (λ (p : ScriptParts). IsRefusedProgram p.lines p.source r) same a.is_refused) b.is_refused

monitor_or_refusal : (input : List ℕ) → IsMonitorInput input ⊎ ((r : Refusal) × IsRefusedMonitor input r)
monitor_or_refusal input = elim (scripts.one_verdict input).some [
  | inr none ↦ inr (_, inl (record { line = none.0; has_none = none.1; refusal = refl }))
  | inl script ↦ elim (program_or_refusal script.0.lines script.0.source) [
    | inl program ↦ inl (record { parts = script.0; is_script = script.1; is_program = program })
    | inr refused ↦ inr (
      refused.0,
      inr (record { parts = script.0; is_script = script.1; is_refused = refused.1 }),
    )
  ]
]

pub one_verdict : (input : List ℕ) → HasOneFaultUnless (IsMonitorInput input) (IsRefusedMonitor input)
one_verdict input = told_once (IsRefusedMonitor input) (monitor_or_refusal input) (not_accepted input) (refused_once input)
