-- Objects and unit have one layout, and a statement stands behind those before it.
use Rattle.std.proofs.Common.{ℕ, Some, ◌≡◌, ◌∙◌, ap, map, subst, sym}
use Rattle.std.specs.Prelude.{Contains, slice_get, sum_by, take}
use Rattle.std.specs.List.{All}
use Rattle.std.proofs.lemmas.Result.{IfOk-weaker}
use Rattle.m88_link.specs.declared.fault.LinkFault.{LinkFault}
use Rattle.m88_base.specs.Image.{IsImage, ProgramImage}
use Rattle.m88_link.specs.Layout.{layout_of}
use Rattle.m88_link.specs.Linked.{IsLinked}
use Rattle.m88_link.specs.Refusal.{IsLinkable, IsRefused}
use Rattle.m88_link.specs.Sound.{IsSound}
use Rattle.m88_parse.specs.declared.unit.Module.{Module}
use Rattle.m88_asm.specs.Counters.{Located, offset_of, section_of}
use Rattle.m88_asm.specs.Images.{IsUnitImage}
use Rattle.m88_asm.specs.Objects.{lines_in, object_of, objects_of}
use Rattle.m88_asm.specs.Units.{length_in, unit_layout}
use Rattle.m88_asm.proofs.Instructions.{offsets_law}
use Rattle.m88_asm.proofs.OneUnit.{image_law}
use Rattle.m88_asm.proofs.Reaching.{layout_law, refused_law}
use Rattle.m88_asm.proofs.objects.assemble.Goals as goal

pub returns-clause-objects : goal.returns-clause-objects
returns-clause-objects c =
    IfOk-weaker c.objects.result (λ v. (v.items ≡ map object_of c.as_slice.result.now) × All IsSound v.items)
    (λ v. v.items ≡ objects_of c.args.unit.now) (λ v is. is.0 ∙ ap (map object_of) c.as_slice.ensures) c.objects.ensures.right

pub returns-clause-sound : goal.returns-clause-sound
returns-clause-sound c =
    IfOk-weaker c.objects.result (λ v. (v.items ≡ map object_of c.as_slice.result.now) × All IsSound v.items)
    (λ v. All IsSound v.items) (λ v is. is.1) c.objects.ensures.right

pub returns-clause-layout : goal.returns-clause-layout
returns-clause-layout c =
    let u = c.args.unit.now in
    IfOk-weaker c.objects.result (λ v. (v.items ≡ map object_of c.as_slice.result.now) × All IsSound v.items)
    (λ v. IsLinkable (layout_of v.items) → layout_of v.items ≡ unit_layout u)
    (λ v is. subst (λ os. IsLinkable (layout_of os) → layout_of os ≡ unit_layout u)
    (sym (is.0 ∙ ap (map object_of) c.as_slice.ensures)) (layout_law u c.requires))
    c.objects.ensures.right

pub returns-clause-refusal : goal.returns-clause-refusal
returns-clause-refusal c =
    let u = c.args.unit.now in
    IfOk-weaker c.objects.result (λ v. (v.items ≡ map object_of c.as_slice.result.now) × All IsSound v.items)
    (λ v. (e : LinkFault) → IsRefused (layout_of v.items) e → IsRefused (unit_layout u) e)
    (λ v is. subst (λ os. (e : LinkFault) → IsRefused (layout_of os) e → IsRefused (unit_layout u) e)
    (sym (is.0 ∙ ap (map object_of) c.as_slice.ensures)) (refused_law u))
    c.objects.ensures.right

pub returns-clause-linked : goal.returns-clause-linked
returns-clause-linked c =
    let u = c.args.unit.now in
    IfOk-weaker c.objects.result (λ v. (v.items ≡ map object_of c.as_slice.result.now) × All IsSound v.items)
    (λ v. (image : ProgramImage) → IsImage image → IsLinkable (layout_of v.items) → IsLinked (layout_of v.items) image → IsUnitImage u image)
    (λ v is image is_image. subst (λ os. IsLinkable (layout_of os) → IsLinked (layout_of os) image → IsUnitImage u image)
    (sym (is.0 ∙ ap (map object_of) c.as_slice.ensures)) (image_law u image c.requires is_image))
    c.objects.ensures.right

pub returns-clause-offsets : goal.returns-clause-offsets
returns-clause-offsets c =
    let u = c.args.unit.now in
    IfOk-weaker c.objects.result (λ v. (v.items ≡ map object_of c.as_slice.result.now) × All IsSound v.items)
    (λ v. (m : Module) (i : ℕ) (r : Located) → Contains u.modules m → slice_get (lines_in m) i ≡ Some r
    → offset_of r ≡ sum_by (length_in (section_of r)) (take i (lines_in m)))
    (λ v is m i r _ h. offsets_law m i r h) c.objects.ensures.right
