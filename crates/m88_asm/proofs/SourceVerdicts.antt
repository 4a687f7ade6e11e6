-- A source of the assembly language has one unit or one first fault, and a unit is laid out or has one fault: so a source
-- is accepted or has one refusal, behind other lines of an input too.
use Rattle.std.proofs.Common.{◌≡◌, List, ℕ, Option, None, Some, ap, inl, inr, refl, sym, subst, ◌∙◌}
use Rattle.std.specs.Prelude.{◌⊎◌}
use Rattle.m88_base.proofs.Laws.{told_once}
use Rattle.m88_base.specs.OneVerdict.{HasOneFaultUnless}
use Rattle.m88_base.specs.Refusal.{Refusal}
use Rattle.m88_parse.proofs.Laws.{one_source_verdict}
use Rattle.m88_parse.specs.Language.Units.{IsUnit}
use Rattle.m88_parse.specs.declared.unit.Unit.{Unit as Source}
use Rattle.m88_link.proofs.Laws.{not_both, one_refusal}
use Rattle.m88_link.specs.Refusal.{IsLinkable, IsRefused}
use Rattle.m88_asm.proofs.OneUnit.{one_verdict as one_unit_verdict}
use Rattle.m88_asm.specs.Accepted.{IsFirstUnitFault}
use Rattle.m88_asm.specs.Faults.{IsAssembled, unit_fault}
use Rattle.m88_asm.specs.Units.{unit_layout}
use Rattle.m88_asm.specs.declared.fault.AsmFault.{AsmFault}
use Rattle.m88_asm.specs.declared.fault.UnitFault.{UnitFault}
use Rattle.m88_asm.specs.declared.fault.UnitFault.TheVariants as unit_kind
use Rattle.m88_asm.specs.Sources.{IsAssemblySource, IsProgramSource, IsRefusedProgram, IsRefusedSource, IsUnassembled, IsUnlinked, asm_refusal, link_refusal, parse_refusal}

-- a unit without a fault has none
none_some : (o : Option AsmFault) (fault : AsmFault) → o ≡ None → o ≡ Some fault → ⊥
none_some o fault none some = absurd cc

-- a source that is refused can't be assembled
pub not_assembled : (n : ℕ) (source : List ℕ) (r : Refusal) → IsAssemblySource source → IsRefusedSource n source r → ⊥
not_assembled n source r accepted (inl unread) =
    (one_source_verdict source).not_both accepted.unit unread.fault accepted.is_unit unread.is_first
not_assembled n source r accepted (inr unassembled) =
    let same = (one_source_verdict source).one_value accepted.unit unassembled.unit accepted.is_unit unassembled.is_unit in
    none_some (unit_fault unassembled.unit) unassembled.fault (subst IsAssembled same accepted.is_assembled) unassembled.is_first

-- a source that is accepted for linking can be assembled
assembled : (source : List ℕ) → IsProgramSource source → IsAssemblySource source
assembled source accepted = record { unit = accepted.unit; is_unit = accepted.is_unit; is_assembled = accepted.is_accepted.assembled }

-- a source that is refused can't be assembled and linked
pub not_linked : (n : ℕ) (source : List ℕ) (r : Refusal) → IsProgramSource source → IsRefusedProgram n source r → ⊥
not_linked n source r accepted (inl refused) = not_assembled n source r (assembled source accepted) refused
not_linked n source r accepted (inr unlinked) =
    let same = (one_source_verdict source).one_value accepted.unit unlinked.unit accepted.is_unit unlinked.is_unit in
    not_both (unit_layout unlinked.unit) unlinked.fault
    (subst (λ (u : Source). IsLinkable (unit_layout u)) same accepted.is_accepted.linkable) unlinked.is_refused

-- behind so many lines it is refused in one way
same_fault : (n : ℕ) (source : List ℕ) (r s : Refusal) → IsUnassembled n source r → IsUnassembled n source s → r ≡ s
same_fault n source r s a b =
    let unit = (one_source_verdict source).one_value a.unit b.unit a.is_unit b.is_unit in
    let both : Some a.fault ≡ Some b.fault = sym a.is_first ∙ ap unit_fault unit ∙ b.is_first in
    let fault : a.fault ≡ b.fault = cc in
    a.refusal ∙ ap (asm_refusal n) fault ∙ sym b.refusal

same_refusal : (n : ℕ) (source : List ℕ) (r s : Refusal) → IsRefusedSource n source r → IsRefusedSource n source s → r ≡ s
same_refusal n source r s (inl a) (inl b) =
    a.refusal ∙ ap (parse_refusal n) ((one_source_verdict source).one_fault a.fault b.fault a.is_first b.is_first) ∙ sym b.refusal
same_refusal n source r s (inl a) (inr b) = absurd ((one_source_verdict source).not_both b.unit a.fault b.is_unit a.is_first)
same_refusal n source r s (inr a) (inl b) = absurd ((one_source_verdict source).not_both a.unit b.fault a.is_unit b.is_first)
same_refusal n source r s (inr a) (inr b) = same_fault n source r s a b

-- a source whose layout is refused can be assembled
unlinked_is_assembled : (n : ℕ) (source : List ℕ) (r : Refusal) → IsUnlinked n source r → IsAssemblySource source
unlinked_is_assembled n source r h = record { unit = h.unit; is_unit = h.is_unit; is_assembled = h.is_assembled }

pub same_program_refusal : (n : ℕ) (source : List ℕ) (r s : Refusal) → IsRefusedProgram n source r → IsRefusedProgram n source s → r ≡ s
same_program_refusal n source r s (inl a) (inl b) = same_refusal n source r s a b
same_program_refusal n source r s (inl a) (inr b) = absurd (not_assembled n source r (unlinked_is_assembled n source s b) a)
same_program_refusal n source r s (inr a) (inl b) = absurd (not_assembled n source s (unlinked_is_assembled n source r a) b)
same_program_refusal n source r s (inr a) (inr b) =
    let unit = (one_source_verdict source).one_value a.unit b.unit a.is_unit b.is_unit in
    let fault = one_refusal (unit_layout b.unit) a.fault b.fault
    (subst (λ (u : Source). IsRefused (unit_layout u) a.fault) unit a.is_refused) b.is_refused in
    a.refusal ∙ ap (link_refusal n) fault ∙ sym b.refusal

-- a source is assembled or refused
assembly_or_refusal : (n : ℕ) (source : List ℕ) → IsAssemblySource source ⊎ ((r : Refusal) × IsRefusedSource n source r)
assembly_or_refusal n source = elim (one_source_verdict source).some [
  | inl unit ↦ by_statements unit.0 unit.1 (unit_fault unit.0) refl
  | inr fault ↦ inr (_, inl (record { fault = fault.0; is_first = fault.1; refusal = refl }))
]
  where
    by_statements : (u : Source) → IsUnit source u → (o : Option AsmFault) → unit_fault u ≡ o
        → IsAssemblySource source ⊎ ((r : Refusal) × IsRefusedSource n source r)
    by_statements u is_unit None none = inl (record { unit = u; is_unit = is_unit; is_assembled = none })
    by_statements u is_unit (Some fault) first =
        inr (_, inr (record { unit = u; is_unit = is_unit; fault = fault; is_first = first; refusal = refl }))

-- and assembled and linked, or refused, behind other lines of its input too
pub program_or_refusal : (n : ℕ) (source : List ℕ) → IsProgramSource source ⊎ ((r : Refusal) × IsRefusedProgram n source r)
program_or_refusal n source = elim (one_source_verdict source).some [
  | inr fault ↦ inr (_, inl (inl (record { fault = fault.0; is_first = fault.1; refusal = refl })))
  | inl unit ↦ elim (one_unit_verdict unit.0).some [
    | inl accepted ↦ inl (record { unit = unit.0; is_unit = unit.1; is_accepted = accepted.1 })
    | inr fault ↦ inr (by_fault unit.0 unit.1 fault.0 fault.1)
  ]
]
  where
    by_fault : (u : Source) → IsUnit source u → (fault : UnitFault) → IsFirstUnitFault u fault → (r : Refusal) × IsRefusedProgram n source r
    by_fault u is_unit (unit_kind.Asm fault) first =
        (_, inl (inr (record { unit = u; is_unit = is_unit; fault = fault; is_first = first; refusal = refl })))
    by_fault u is_unit (unit_kind.Link fault) (assembled, refused) =
        (_, inr (record { unit = u; is_unit = is_unit; is_assembled = assembled; fault = fault; is_refused = refused; refusal = refl }))

-- a source has one verdict
pub one_assembly_verdict : (n : ℕ) (source : List ℕ) → HasOneFaultUnless (IsAssemblySource source) (IsRefusedSource n source)
one_assembly_verdict n source = told_once (IsRefusedSource n source) (assembly_or_refusal n source) (not_assembled n source) (same_refusal n source)

pub one_program_verdict : (n : ℕ) (source : List ℕ) → HasOneFaultUnless (IsProgramSource source) (IsRefusedProgram n source)
one_program_verdict n source =
    told_once (IsRefusedProgram n source) (program_or_refusal n source) (not_linked n source) (same_program_refusal n source)
