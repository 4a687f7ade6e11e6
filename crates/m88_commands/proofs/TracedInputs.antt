-- An input of a source and the lines of a trace is accepted or has one refusal, never both.
use Rattle.std.proofs.Common.{◌≡◌, ℕ, ◌+◌, List, ap, inl, inr, refl, sym, ◌∙◌, subst}
use Rattle.std.specs.Prelude.{◌⊎◌, false}
use Rattle.m88_base.proofs.Laws.{one_parting, parted_not_unparted, parted_told}
use Rattle.m88_base.specs.Refusal.{Refusal}
use Rattle.m88_trace.proofs.Laws.{one_verdict_of}
use Rattle.m88_asm.specs.Sources.{IsProgramSource, IsRefusedProgram}
use Rattle.m88_commands.specs.TracedSources.{AreTraceParts, BeginsTrace, DiffersFromTrace, HasTrace, IsRefusedBeforeTrace, IsRefusedTrace, IsTracedSource, IsUntraced, LeavesTrace, TraceParts, differs_refusal, no_trace_refusal, trace_separator}
use Rattle.m88_asm.proofs.Laws.{HasProgram, holds_of_same, not_linked, program_or_refusal, same_program_refusal, source_program}

-- a source and a text have one verdict: the text is so many lines of the source's trace, or differs at one line
module _ (source text : List ℕ) where
  one_count : (m n : ℕ) → BeginsTrace source text m → BeginsTrace source text n → m ≡ n
  one_count m n a b = (one_verdict_of b.program text).one_value m n (holds_of_same source _ _ a b) b.holds

  one_place : (m n : ℕ) → LeavesTrace source text m → LeavesTrace source text n → m ≡ n
  one_place m n a b = (one_verdict_of b.program text).one_fault m n (holds_of_same source _ _ a b) b.holds

  begins_or_leaves : (m n : ℕ) → BeginsTrace source text m → LeavesTrace source text n → ⊥
  begins_or_leaves m n a b = (one_verdict_of b.program text).not_both m n (holds_of_same source _ _ a b) b.holds

module _ (input : List ℕ) where
  -- an input is parted in one way
  one_of_each : (t u : TraceParts) → AreTraceParts input t → AreTraceParts input u → t ≡ u
  one_of_each t u h k =
      let same = one_parting trace_separator input t.source t.lines t.text h u.source u.lines u.text k in
      λ i. record { source = same.0 i; lines = same.1 i; text = same.2 i }

  -- or it isn't parted
  there_or_not : (r : Refusal) → IsUntraced input r → (t : TraceParts) → AreTraceParts input t → ⊥
  there_or_not r none t h = parted_not_unparted trace_separator input t.source t.lines t.text h none.lines none.is_unparted

  -- so many lines of its trace stand in an input, for one number
  pub one_trace : (m n : ℕ) → HasTrace input m → HasTrace input n → m ≡ n
  one_trace m n a b =
      let same = one_of_each a.parts b.parts a.are_parts b.are_parts in
      one_count b.parts.source b.parts.text m n (subst (λ (t : TraceParts). BeginsTrace t.source t.text m) same a.begins) b.begins

  -- an input that is refused isn't accepted
  pub not_accepted : (r : Refusal) → IsTracedSource input → IsRefusedTrace input r → ⊥
  not_accepted r (n, has) (inl none) = there_or_not r none has.parts has.are_parts
  not_accepted r (n, has) (inr (inl early)) =
      let same = one_of_each has.parts early.parts has.are_parts early.are_parts in
      not_linked 0 early.parts.source r (subst (λ (t : TraceParts). IsProgramSource t.source) same has.is_program) early.is_refused
  not_accepted r (n, has) (inr (inr late)) =
      let same = one_of_each has.parts late.parts has.are_parts late.are_parts in
      begins_or_leaves late.parts.source late.parts.text n late.before
      (subst (λ (t : TraceParts). BeginsTrace t.source t.text n) same has.begins) late.leaves

  -- lines that differ stand behind a source without a fault
  late_or_early : (r s : Refusal) → DiffersFromTrace input r → IsRefusedBeforeTrace input s → ⊥
  late_or_early r s late early =
      let same = one_of_each late.parts early.parts late.are_parts early.are_parts in
      not_linked 0 early.parts.source s (subst (λ (t : TraceParts). IsProgramSource t.source) same late.is_program) early.is_refused

  -- two places at which an input differs from a trace are one
  one_late : (r s : Refusal) → DiffersFromTrace input r → DiffersFromTrace input s → r ≡ s
  one_late r s a b =
      let same = one_of_each a.parts b.parts a.are_parts b.are_parts in
      let place = one_place b.parts.source b.parts.text a.before b.before
      (subst (λ (t : TraceParts). LeavesTrace t.source t.text a.before) same a.leaves) b.leaves in
      a.refusal
      ∙ ap (λ (t : TraceParts). differs_refusal (t.lines + a.before + 1)) same
      ∙ ap (λ n. differs_refusal (b.parts.lines + n + 1)) place
      ∙ sym b.refusal

  -- an input has one refusal
  pub refused_once : (r s : Refusal) → IsRefusedTrace input r → IsRefusedTrace input s → r ≡ s
  refused_once r s (inl a) (inl b) =
      a.refusal ∙ ap (λ n. no_trace_refusal (n + 1)) (a.is_unparted.number ∙ sym b.is_unparted.number) ∙ sym b.refusal
  refused_once r s (inl a) (inr (inl b)) = absurd (there_or_not r a b.parts b.are_parts)
  refused_once r s (inl a) (inr (inr b)) = absurd (there_or_not r a b.parts b.are_parts)
  refused_once r s (inr (inl a)) (inl b) = absurd (there_or_not s b a.parts a.are_parts)
  refused_once r s (inr (inr a)) (inl b) = absurd (there_or_not s b a.parts a.are_parts)
  refused_once r s (inr (inl a)) (inr (inl b)) =
      let same = one_of_each a.parts b.parts a.are_parts b.are_parts in
      same_program_refusal 0 b.parts.source r s (subst (λ (t : TraceParts). IsRefusedProgram 0 t.source r) same a.is_refused)
      b.is_refused
  refused_once r s (inr (inl a)) (inr (inr b)) = absurd (late_or_early s r b a)
  refused_once r s (inr (inr a)) (inr (inl b)) = absurd (late_or_early r s a b)
  refused_once r s (inr (inr a)) (inr (inr b)) = one_late r s a b

  -- an input is accepted or refused
  pub trace_or_refusal : IsTracedSource input ⊎ ((r : Refusal) × IsRefusedTrace input r)
  trace_or_refusal = elim (parted_told trace_separator input) [
    | inr none ↦ inr (_, inl (record { lines = none.0; is_unparted = none.1; refusal = refl }))
    | inl p ↦ by_source (record { source = p.before; lines = p.lines; text = p.behind }) p.is_parted
  ]
    where
      by_text : (t : TraceParts) → AreTraceParts input t → IsProgramSource t.source → HasProgram false t.source
          → IsTracedSource input ⊎ ((r : Refusal) × IsRefusedTrace input r)
      by_text t are is h = elim (one_verdict_of h.program t.text).some [
        | inl begins ↦ inl (
          begins.0,
          record {
            parts = t;
            are_parts = are;
            is_program = is;
            begins = record { program = h.program; of_source = h.of_source; mode = h.mode; holds = begins.1 };
          },
        )
        | inr leaves ↦ inr (
          _,
          inr (inr (record {
            parts = t;
            are_parts = are;
            is_program = is;
            before = leaves.0;
            leaves = record { program = h.program; of_source = h.of_source; mode = h.mode; holds = leaves.1 };
            refusal = refl;
          })),
        )
      ]

      by_source : (t : TraceParts) → AreTraceParts input t → IsTracedSource input ⊎ ((r : Refusal) × IsRefusedTrace input r)
      by_source t are = elim (program_or_refusal 0 t.source) [
        | inl is ↦ by_text t are is (source_program false t.source is)
        | inr refused ↦ inr (refused.0, inr (inl (record { parts = t; are_parts = are; is_refused = refused.1 })))
      ]
