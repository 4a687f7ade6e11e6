-- A unit is accepted or has one first fault, and an image of its objects is its own.
use Rattle.std.proofs.Common.{◌≡◌, Option, None, Some, ap, inl, inr, refl, sym, ◌∙◌}
use Rattle.std.specs.Prelude.{◌⊎◌, Err, IfErr, Ok, OnOk, Result}
use Rattle.std.specs.Result.{IsErrAnd}
use Rattle.m88_base.specs.Image.{IsImage, ProgramImage}
use Rattle.m88_base.specs.OneVerdict.{HasOneFaultUnless}
use Rattle.m88_parse.specs.WellFormed.{IsWellFormed}
use Rattle.m88_parse.specs.declared.unit.Unit.{Unit as Source}
use Rattle.m88_link.proofs.Laws.{not_both, one_layout_verdict, one_refusal}
use Rattle.m88_link.specs.Layout.{layout_of}
use Rattle.m88_link.specs.Linked.{IsLinked}
use Rattle.m88_link.specs.Refusal.{IsLinkable}
use Rattle.m88_asm.specs.Accepted.{IsAcceptedUnit, IsFirstUnitFault, IsOutOfMemory, IsUnitFault}
use Rattle.m88_asm.specs.Faults.{unit_fault}
use Rattle.m88_asm.specs.Images.{IsUnitImage}
use Rattle.m88_asm.specs.Objects.{objects_of}
use Rattle.m88_asm.specs.Units.{unit_layout}
use Rattle.m88_asm.specs.declared.fault.AsmFault.{AsmFault}
use Rattle.m88_asm.specs.declared.fault.UnitFault.{UnitFault}
use Rattle.m88_asm.specs.declared.fault.UnitFault.TheVariants.{Asm, Link}
use Rattle.m88_asm.proofs.Instructions.{bytes_law}
use Rattle.m88_asm.proofs.Reaching.{linkable_law, linked_law}

-- an image into which the objects of a unit are linked is the unit's
pub image_law : (u : Source) (image : ProgramImage) → IsWellFormed u → IsImage image → IsLinkable (layout_of (objects_of u))
    → IsLinked (layout_of (objects_of u)) image → IsUnitImage u image
image_law u image formed is_image links linked =
    let own = linked_law u image formed links linked in
    record { is_image = is_image; bytes = bytes_law u image (linkable_law u links) own; start = own.start }

module _ (u : Source) where
  -- a unit is accepted or has a first fault
  accepted_or_fault : IsAcceptedUnit u ⊎ ((e : UnitFault) × IsFirstUnitFault u e)
  accepted_or_fault = by_statements (unit_fault u) refl
    where
      by_statements : (o : Option AsmFault) → unit_fault u ≡ o → IsAcceptedUnit u ⊎ ((e : UnitFault) × IsFirstUnitFault u e)
      by_statements (Some e) first = inr (Asm e, first)
      by_statements None none = elim (one_layout_verdict (unit_layout u)).some [
        | inl links ↦ inl (record { assembled = none; linkable = links.1 })
        | inr refused ↦ inr (Link refused.0, (none, refused.1))
      ]

  -- not both
  none_and_some : (e : AsmFault) → unit_fault u ≡ None → unit_fault u ≡ Some e → ⊥
  none_and_some e none some = let both : None ≡ Some e = sym none ∙ some in absurd cc

  no_fault : (e : UnitFault) → IsAcceptedUnit u → IsFirstUnitFault u e → ⊥
  no_fault (Asm e) accepted first = none_and_some e accepted.assembled first
  no_fault (Link e) accepted refused = not_both (unit_layout u) e accepted.linkable refused.1

  -- one fault
  same_fault : (a b : UnitFault) → IsFirstUnitFault u a → IsFirstUnitFault u b → a ≡ b
  same_fault (Asm a) (Asm b) h k = let both : Some a ≡ Some b = sym h ∙ k in cc
  same_fault (Asm a) (Link b) h k = absurd (none_and_some a k.0 h)
  same_fault (Link a) (Asm b) h k = absurd (none_and_some b h.0 k)
  same_fault (Link a) (Link b) h k = ap Link (one_refusal (unit_layout u) a b h.1 k.1)

  pub one_verdict : HasOneFaultUnless (IsAcceptedUnit u) (IsFirstUnitFault u)
  one_verdict = record {
    some = elim accepted_or_fault [
      | inl accepted ↦ inl (tt, accepted)
      | inr fault ↦ inr fault
    ];
    not_both = λ value e accepted first. no_fault e accepted first;
    one_value = λ a b h k. refl;
    one_fault = same_fault;
  }

  -- what a call answers, the other way round
  pub accepted_told : {X : Type 0} (r : Result X UnitFault) → IfErr r (IsUnitFault u) → IsAcceptedUnit u → IfErr r IsOutOfMemory
  accepted_told (Ok x) told accepted = tt
  accepted_told (Err e) (inl memory) accepted = memory
  accepted_told (Err e) (inr first) accepted = absurd (no_fault e accepted first)

  pub fault_told : {X : Type 0} (r : Result X UnitFault) → OnOk r (IsAcceptedUnit u) → IfErr r (IsUnitFault u)
      → (e : UnitFault) → IsFirstUnitFault u e → IsErrAnd r (λ fault. IsOutOfMemory fault ⊎ (fault ≡ e))
  fault_told (Ok x) accepted told e first = no_fault e accepted first
  fault_told (Err f) accepted (inl memory) e first = inl memory
  fault_told (Err f) accepted (inr own) e first = inr (same_fault f e own first)
