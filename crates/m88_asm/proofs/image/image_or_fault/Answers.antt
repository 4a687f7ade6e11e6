-- What linking finds in the objects of a unit it finds in the unit.
use Rattle.std.proofs.Common.{◌≡◌, ◌∙◌, List, inl, inr, subst}
use Rattle.m88_base.specs.Image.{ProgramImage}
use Rattle.m88_parse.specs.WellFormed.{IsWellFormed}
use Rattle.m88_parse.specs.declared.unit.Unit.{Unit as Source}
use Rattle.m88_link.specs.Layout.{layout_of}
use Rattle.m88_link.specs.Linked.{IsLinked}
use Rattle.m88_link.specs.Refusal.{IsLinkable, IsRefused}
use Rattle.m88_link.specs.declared.object.Object.{Object}
use Rattle.m88_asm.specs.Objects.{objects_of}
use Rattle.m88_asm.specs.Units.{unit_layout}
use Rattle.m88_asm.proofs.Instructions.{instructions_law}
use Rattle.m88_asm.proofs.OneUnit.{image_law}
use Rattle.m88_asm.proofs.Reaching.{linkable_law, linked_law, refused_law}
use Rattle.m88_asm.proofs.image.image_or_fault.Goals as goal

can_link : (u : Source) (os : List Object) → os ≡ objects_of u → IsLinkable (layout_of os) → IsLinkable (layout_of (objects_of u))
can_link u os e h = subst (λ (qs : List Object). IsLinkable (layout_of qs)) e h

is_linked : (u : Source) (os : List Object) (image : ProgramImage) → IsWellFormed u → os ≡ objects_of u → IsLinkable (layout_of os)
    → IsLinked (layout_of os) image → IsLinked (unit_layout u) image
is_linked u os image formed e links linked =
    linked_law u image formed (can_link u os e links) (subst (λ (qs : List Object). IsLinked (layout_of qs) image) e linked)

pub returns-in-Ok-link : goal.returns-in-Ok-link
returns-in-Ok-link c =
    let u = c.args.unit in
    let e = c.deref.ensures.value ∙ c.in-Ok.ensures.right.0 in
    let os = c.deref.result.now in
    let image = c.in-Ok-link.image in
    let links = c.in-Ok-link.ensures.linkable in
    let linked = is_linked u os image c.requires e links c.in-Ok-link.ensures.image in
    let linkable = linkable_law u (can_link u os e links) in
    record {
      image =
          image_law u image c.requires c.in-Ok-link.ensures.is_image (can_link u os e links)
          (subst (λ (qs : List Object). IsLinked (layout_of qs) image) e c.in-Ok-link.ensures.image);
      instructions = instructions_law u image c.requires c.in-Ok.ensures.clean linkable linked;
      linked = linked;
      accepted = record { assembled = c.in-Ok.ensures.clean; linkable = linkable };
      fault = tt;
    }

pub returns : goal.returns
returns c = record {
  image = tt;
  instructions = tt;
  linked = tt;
  accepted = tt;
  fault = elim c.in-Err-link.ensures.err [
    | inl e ↦ inl e
    | inr e ↦ inr (
      c.in-Ok.ensures.clean,
      refused_law c.args.unit c.in-Err-link.fault
          (subst (λ os. IsRefused (layout_of os) c.in-Err-link.fault) (c.deref.ensures.value ∙ c.in-Ok.ensures.right.0) e),
    )
  ];
}
