-- A text of objects can be linked or has one refusal, and is linked into one image; and the text of the objects of a
-- source links as the source does.
use Rattle.std.proofs.Common.{◌≡◌, ◌<◌, ◌^◌, ℕ, List, inl, inr, length, ap, refl, sym, ◌∙◌, subst}
use Rattle.std.specs.Prelude.{◌⊎◌, ◌↔◌}
use Rattle.std.proofs.lemmas.List.Elements.{All-from_recursion}
use Rattle.m88_base.specs.Image.{ProgramImage}
use Rattle.m88_base.proofs.Laws.{same_images, told_once}
use Rattle.m88_base.specs.OneVerdict.{HasOneFaultUnless}
use Rattle.m88_base.specs.Refusal.{Refusal}
use Rattle.m88_link.proofs.Laws.{not_both, one_layout_verdict, one_refusal, one_text_verdict}
use Rattle.m88_link.specs.Layout.{layout_of}
use Rattle.m88_link.specs.Linked.{IsLinked}
use Rattle.m88_link.specs.ObjectRead.{IsFormLine, IsRangeLine, IsSoundText, IsTextFault}
use Rattle.m88_link.specs.ObjectText.{objects_text}
use Rattle.m88_link.specs.Refusal.{IsLinkable, IsRefused}
use Rattle.m88_link.specs.Sound.{IsSound}
use Rattle.m88_link.specs.declared.object.Object.{Object}
use Rattle.m88_link.specs.declared.object_fault.ObjectFault.{ObjectFault}
use Rattle.m88_link.specs.declared.object_fault.ObjectFault.TheVariants.{Form, Range, Memory}
use Rattle.m88_parse.proofs.Laws.{one_source_verdict, unit_formed}
use Rattle.m88_parse.specs.Language.Units.{IsUnit}
use Rattle.m88_parse.specs.declared.unit.Unit.{Unit as Source}
use Rattle.m88_asm.specs.Accepted.{IsAcceptedUnit}
use Rattle.m88_asm.specs.Faults.{IsAssembled}
use Rattle.m88_asm.specs.Images.{IsUnitImage}
use Rattle.m88_asm.specs.LinkedTexts.{IsImageOfObjects, IsLinkableText, IsRefusedObjects, IsUnlinkable, object_refusal}
use Rattle.m88_asm.specs.Objects.{objects_of}
use Rattle.m88_asm.specs.Sources.{IsProgramSource, IsRefusedProgram, IsSourceImage, link_refusal}
use Rattle.m88_asm.specs.Units.{unit_layout}
use Rattle.m88_asm.proofs.Instructions.{bytes_law}
use Rattle.m88_asm.proofs.Layouts.{linkable_too, linked_too, one_text, refused_first, refused_too}
use Rattle.m88_asm.proofs.ObjectTexts.{objects_have_text}
use Rattle.m88_asm.proofs.Reaching.{linkable_law, linked_law}
use Rattle.m88_asm.proofs.SourceVerdicts.{not_assembled}
use Rattle.m88_asm.proofs.UnitSound.{modules_sound}

-- a text is that of one list of sound objects
one_list : (text : List ℕ) (os ps : List Object) → IsSoundText os text → IsSoundText ps text → os ≡ ps
one_list text os ps a b = (one_text_verdict text).one_value os ps a b

-- which no line refuses
no_form : (text : List ℕ) (os : List Object) (n : ℕ) → IsSoundText os text → IsFormLine text n → ⊥
no_form text os n a form = (one_text_verdict text).not_both os (Form n) a form

no_range : (text : List ℕ) (os : List Object) (n : ℕ) → IsSoundText os text → IsRangeLine text n → ⊥
no_range text os n a range = (one_text_verdict text).not_both os (Range n) a range

-- so one line is the first of its kind, and there are no lines of both kinds
one_form : (text : List ℕ) (m n : ℕ) → IsFormLine text m → IsFormLine text n → m ≡ n
one_form text m n a b = let same = (one_text_verdict text).one_fault (Form m) (Form n) a b in cc

one_range : (text : List ℕ) (m n : ℕ) → IsRangeLine text m → IsRangeLine text n → m ≡ n
one_range text m n a b = let same = (one_text_verdict text).one_fault (Range m) (Range n) a b in cc

one_kind : (text : List ℕ) (m n : ℕ) → IsRangeLine text m → IsFormLine text n → ⊥
one_kind text m n a b = let same = (one_text_verdict text).one_fault (Range m) (Form n) a b in absurd cc

-- a text that is refused can't be linked
not_linkable : (text : List ℕ) (r : Refusal) → IsLinkableText text → IsRefusedObjects text r → ⊥
not_linkable text r accepted (inl form) = no_form text accepted.objects form.line accepted.is_text form.is_first
not_linkable text r accepted (inr (inl range)) = no_range text accepted.objects range.line accepted.is_text range.is_first
not_linkable text r accepted (inr (inr unlinkable)) =
    let same = one_list text accepted.objects unlinkable.objects accepted.is_text unlinkable.is_text in
    not_both (layout_of unlinkable.objects) unlinkable.fault
    (subst (λ (os : List Object). IsLinkable (layout_of os)) same accepted.is_linkable) unlinkable.is_refused

-- it is refused in one way
same_unlinkable : (text : List ℕ) (r s : Refusal) → IsUnlinkable text r → IsUnlinkable text s → r ≡ s
same_unlinkable text r s a b =
    let same = one_list text a.objects b.objects a.is_text b.is_text in
    let fault = one_refusal (layout_of b.objects) a.fault b.fault
    (subst (λ (os : List Object). IsRefused (layout_of os) a.fault) same a.is_refused) b.is_refused in
    a.refusal ∙ ap (link_refusal 0) fault ∙ sym b.refusal

same_objects_refusal : (text : List ℕ) (r s : Refusal) → IsRefusedObjects text r → IsRefusedObjects text s → r ≡ s
same_objects_refusal text r s (inl a) (inl b) = a.refusal ∙ ap (λ line. object_refusal line (Form line)) (one_form text a.line b.line a.is_first b.is_first) ∙ sym b.refusal
same_objects_refusal text r s (inl a) (inr (inl b)) = absurd (one_kind text b.line a.line b.is_first a.is_first)
same_objects_refusal text r s (inl a) (inr (inr b)) = absurd (no_form text b.objects a.line b.is_text a.is_first)
same_objects_refusal text r s (inr (inl a)) (inl b) = absurd (one_kind text a.line b.line a.is_first b.is_first)
same_objects_refusal text r s (inr (inl a)) (inr (inl b)) = a.refusal ∙ ap (λ line. object_refusal line (Range line)) (one_range text a.line b.line a.is_first b.is_first) ∙ sym b.refusal
same_objects_refusal text r s (inr (inl a)) (inr (inr b)) = absurd (no_range text b.objects a.line b.is_text a.is_first)
same_objects_refusal text r s (inr (inr a)) (inl b) = absurd (no_form text a.objects b.line a.is_text b.is_first)
same_objects_refusal text r s (inr (inr a)) (inr (inl b)) = absurd (no_range text a.objects b.line a.is_text b.is_first)
same_objects_refusal text r s (inr (inr a)) (inr (inr b)) = same_unlinkable text r s a b

-- a layout is linked into one image
pub one_image_of : (text : List ℕ) (i j : ProgramImage) → IsImageOfObjects text i → IsImageOfObjects text j → i ≡ j
one_image_of text i j a b =
    let same = one_list text a.objects b.objects a.is_text b.is_text in
    let own : IsLinked (layout_of b.objects) i = subst (λ (os : List Object). IsLinked (layout_of os) i) same a.is_linked in
    same_images i j a.is_image.apart b.is_image.apart (own.start ∙ sym b.is_linked.start) (λ n. own.bytes n ∙ sym (b.is_linked.bytes n))

-- object texts are linked or refused
objects_or_refusal : (text : List ℕ) → IsLinkableText text ⊎ ((r : Refusal) × IsRefusedObjects text r)
objects_or_refusal text = elim (one_text_verdict text).some [
  | inl sound ↦ by_layout sound.0 sound.1
  | inr fault ↦ inr (by_fault fault.0 fault.1)
]
  where
    by_layout : (os : List Object) → IsSoundText os text → IsLinkableText text ⊎ ((r : Refusal) × IsRefusedObjects text r)
    by_layout os is_text = elim (one_layout_verdict (layout_of os)).some [
      | inl links ↦ inl (record { objects = os; is_text = is_text; is_linkable = links.1 })
      | inr fault ↦ inr (_, inr (inr (record { objects = os; is_text = is_text; fault = fault.0; is_refused = fault.1; refusal = refl })))
    ]

    by_fault : (fault : ObjectFault) → IsTextFault text fault → (r : Refusal) × IsRefusedObjects text r
    by_fault (Form n) first = (_, inl (record { line = n; is_first = first; refusal = refl }))
    by_fault (Range n) first = (_, inr (inl (record { line = n; is_first = first; refusal = refl })))
    by_fault Memory first = absurd first

-- so it has one verdict
pub one_linking_verdict : (text : List ℕ) → HasOneFaultUnless (IsLinkableText text) (IsRefusedObjects text)
one_linking_verdict text = told_once (IsRefusedObjects text) (objects_or_refusal text) (not_linkable text) (same_objects_refusal text)

-- a source and the text of its objects link alike: into the same images, or with the same refusals
pub record LinksAlike (source objects : List ℕ) : Type 0 where
  pub accepted : IsProgramSource source ↔ IsLinkableText objects
  pub images : (image : ProgramImage) → IsProgramSource source → IsSourceImage source image ↔ IsImageOfObjects objects image
  pub refusals : (r : Refusal) → IsRefusedProgram 0 source r ↔ IsRefusedObjects objects r

-- the one unit of a source, of whose objects the text is
module _ (source objects : List ℕ) (unit : Source) (short : length source < 2 ^ 31) (is_unit : IsUnit source unit)
    (assembled : IsAssembled unit) (text_is : objects ≡ objects_text (objects_of unit)) where
  is_text : IsSoundText (objects_of unit) objects
  is_text = record {
    have = objects_have_text source unit short is_unit assembled;
    sound = All-from_recursion IsSound (objects_of unit) (modules_sound unit.modules assembled);
    text_is = text_is;
  }

  same_unit : (u : Source) → IsUnit source u → u ≡ unit
  same_unit u is = (one_source_verdict source).one_value u unit is is_unit

  same_objects : (os : List Object) → IsSoundText os objects → os ≡ objects_of unit
  same_objects os is = one_text objects os (objects_of unit) is.have is.text_is is_text.have is_text.text_is

  accepted_unit : IsProgramSource source → IsAcceptedUnit unit
  accepted_unit h = subst IsAcceptedUnit (same_unit h.unit h.is_unit) h.is_accepted

  to_objects : IsProgramSource source → IsLinkableText objects
  to_objects h =
      record { objects = objects_of unit; is_text = is_text; is_linkable = linkable_too unit (accepted_unit h).linkable }

  can_link : IsLinkableText objects → IsLinkable (layout_of (objects_of unit))
  can_link h = subst (λ (os : List Object). IsLinkable (layout_of os)) (same_objects h.objects h.is_text) h.is_linkable

  from_objects : IsLinkableText objects → IsProgramSource source
  from_objects h = record {
    unit = unit;
    is_unit = is_unit;
    is_accepted = record { assembled = assembled; linkable = linkable_law unit (can_link h) };
  }

  image_to : (image : ProgramImage) → IsProgramSource source → IsSourceImage source image → IsImageOfObjects objects image
  image_to image h own =
      let of : IsUnitImage unit image = subst (λ (u : Source). IsUnitImage u image) (same_unit own.unit own.is_unit) own.is_image in
      record {
        objects = objects_of unit;
        is_text = is_text;
        is_image = of.is_image;
        is_linked = linked_too unit image (unit_formed source unit short is_unit) (accepted_unit h) of;
      }

  image_from : (image : ProgramImage) → IsProgramSource source → IsImageOfObjects objects image → IsSourceImage source image
  image_from image h own =
      let there : IsLinked (layout_of (objects_of unit)) image =
      subst (λ (os : List Object). IsLinked (layout_of os) image) (same_objects own.objects own.is_text) own.is_linked in
      let here : IsLinked (unit_layout unit) image =
      linked_law unit image (unit_formed source unit short is_unit) (can_link (to_objects h)) there in
      record {
        unit = unit;
        is_unit = is_unit;
        is_image = record { is_image = own.is_image; bytes = bytes_law unit image (accepted_unit h).linkable here; start = here.start };
      }

  refusal_to : (r : Refusal) → IsRefusedProgram 0 source r → IsRefusedObjects objects r
  refusal_to r (inl refused) = absurd (not_assembled 0 source r (record { unit = unit; is_unit = is_unit; is_assembled = assembled }) refused)
  refusal_to r (inr unlinked) = inr (inr (record {
    objects = objects_of unit;
    is_text = is_text;
    fault = unlinked.fault;
    is_refused =
        refused_too unit unlinked.fault
        (subst (λ (u : Source). IsRefused (unit_layout u) unlinked.fault) (same_unit unlinked.unit unlinked.is_unit) unlinked.is_refused);
    refusal = unlinked.refusal;
  }))

  refusal_from : (r : Refusal) → IsRefusedObjects objects r → IsRefusedProgram 0 source r
  refusal_from r (inl form) = absurd (no_form objects (objects_of unit) form.line is_text form.is_first)
  refusal_from r (inr (inl range)) = absurd (no_range objects (objects_of unit) range.line is_text range.is_first)
  refusal_from r (inr (inr unlinkable)) = inr (record {
    unit = unit;
    is_unit = is_unit;
    is_assembled = assembled;
    fault = unlinkable.fault;
    is_refused =
        refused_first unit unlinkable.fault
        (subst (λ (os : List Object). IsRefused (layout_of os) unlinkable.fault)
        (same_objects unlinkable.objects unlinkable.is_text) unlinkable.is_refused);
    refusal = unlinkable.refusal;
  })

  pub links_alike : LinksAlike source objects
  links_alike = record {
    accepted = (to_objects, from_objects);
    images = λ image h. (image_to image h, image_from image h);
    refusals = λ r. (refusal_to r, refusal_from r);
  }
