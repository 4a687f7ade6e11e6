-- The objects of an accepted unit are linked into the unit's image, and what refuses the one refuses the other.
use Rattle.std.proofs.Common.{◌≡◌, ℕ, false, true, inl, inr, List, Result, Ok, sym, ap, ◌∙◌, subst}
use Rattle.std.specs.Option.{option_or}
use Rattle.std.specs.List.{AllByRecursion}
use Rattle.m88_base.specs.Image.{IsImage, ProgramImage, byte_at, byte_count, first_text}
use Rattle.m88_base.specs.Placed.{byte_among, count_among}
use Rattle.m88_link.proofs.Laws.{all_sound, alone_apart, alone_is, same_count, written_read}
use Rattle.m88_link.specs.Bases.{first_data, section_size, stood}
use Rattle.m88_link.specs.Inside.Carried.{AreAlone}
use Rattle.m88_link.specs.Inside.Drafts.{nothing_read, read_from}
use Rattle.m88_link.specs.Layout.{Layout, layout_of}
use Rattle.m88_link.specs.Linked.{IsLinked}
use Rattle.m88_link.specs.ObjectRead.{HaveText, ended_lines}
use Rattle.m88_link.specs.ObjectText.{objects_text}
use Rattle.m88_link.specs.Refusal.{AreDisjoint, IsLinkable, IsOverlap, IsRefused, duplicate, is_too_large, symbol_fault, too_far, undefined}
use Rattle.m88_link.specs.Sound.{IsSound}
use Rattle.m88_link.specs.declared.fault.LinkFault.{LinkFault}
use Rattle.m88_link.specs.declared.object.Object.{Object}
use Rattle.m88_link.specs.declared.object_fault.ObjectFault.{ObjectFault}
use Rattle.m88_asm.proofs.Composing.{extents_law, globals_law, references_law}
use Rattle.m88_asm.proofs.Imaging.{runs_law}
use Rattle.m88_asm.proofs.Reaching.{layout_law}
use Rattle.m88_asm.specs.Accepted.{IsAcceptedUnit}
use Rattle.m88_asm.specs.Images.{IsUnitImage}
use Rattle.m88_asm.specs.Objects.{objects_of}
use Rattle.m88_asm.specs.Units.{based, unit_layout}
use Rattle.m88_parse.specs.WellFormed.{IsWellFormed}
use Rattle.m88_parse.specs.declared.unit.Unit.{Unit as Source}
use Rattle.m88_asm.proofs.UnitSound.{modules_sound}

-- the faults that name a symbol are those of the unit
same_symbol_fault : (u : Source) → symbol_fault (layout_of (objects_of u)) ≡ symbol_fault (unit_layout u)
same_symbol_fault u =
    let rs = (layout_of (objects_of u)).references in
    ap (λ g. option_or (duplicate g) (option_or (undefined rs) (too_far rs))) (globals_law u)
    ∙ ap (λ xs. option_or (duplicate (unit_layout u).globals) (option_or (undefined xs) (too_far xs)))
    (references_law u)

-- what can be linked of a unit can be of its objects
pub linkable_too : (u : Source) → IsLinkable (unit_layout u) → IsLinkable (layout_of (objects_of u))
linkable_too u h = record {
  fits = subst (λ es. is_too_large es ≡ false) (sym (extents_law u)) h.fits;
  disjoint = subst AreDisjoint (sym (extents_law u)) h.disjoint;
  named = same_symbol_fault u ∙ h.named;
}

-- and what refuses a unit refuses its objects
pub refused_too : (u : Source) (fault : LinkFault) → IsRefused (unit_layout u) fault
    → IsRefused (layout_of (objects_of u)) fault
refused_too u fault (inl h) = inl (subst (λ es. is_too_large es ≡ true) (sym (extents_law u)) h.0, h.1)
refused_too u fault (inr (inl h)) = inr (inl (
  subst (λ es. is_too_large es ≡ false) (sym (extents_law u)) h.0,
  subst (λ es. IsOverlap es fault) (sym (extents_law u)) h.1,
))
refused_too u fault (inr (inr h)) = inr (inr (
  subst (λ es. is_too_large es ≡ false) (sym (extents_law u)) h.0,
  subst AreDisjoint (sym (extents_law u)) h.1,
  same_symbol_fault u ∙ h.2,
))

-- and nothing else does
pub refused_first : (u : Source) (fault : LinkFault) → IsRefused (layout_of (objects_of u)) fault
    → IsRefused (unit_layout u) fault
refused_first u fault (inl h) = inl (subst (λ es. is_too_large es ≡ true) (extents_law u) h.0, h.1)
refused_first u fault (inr (inl h)) = inr (inl (
  subst (λ es. is_too_large es ≡ false) (extents_law u) h.0,
  subst (λ es. IsOverlap es fault) (extents_law u) h.1,
))
refused_first u fault (inr (inr h)) = inr (inr (
  subst (λ es. is_too_large es ≡ false) (extents_law u) h.0,
  subst AreDisjoint (extents_law u) h.1,
  sym (same_symbol_fault u) ∙ h.2,
))

-- no address is in two sections of the objects
sections_alone : (u : Source) → IsAcceptedUnit u → AreAlone (layout_of (objects_of u)).spots
sections_alone u accepted =
    let os = objects_of u in
    let sound : AllByRecursion IsSound os = modules_sound u.modules accepted.assembled in
    alone_is (layout_of os).globals (stood section_size os) (all_sound first_text (first_data section_size os) os sound)
    (linkable_too u accepted.linkable).disjoint

-- the image of a unit is that of its layout
unit_linked : (l : Layout) (image : ProgramImage) → IsImage image → AreAlone l.spots
    → ((a : ℕ) → byte_at image a ≡ byte_among l.spots a)
    → byte_count image ≡ count_among l.spots
unfolding byte_at byte_count
unit_linked l image is alone same = same_count image.runs l.spots (alone_apart 0 image.runs is.apart) alone same

-- and of its objects' layout
pub linked_too : (u : Source) (image : ProgramImage) → IsWellFormed u → IsAcceptedUnit u → IsUnitImage u image
    → IsLinked (layout_of (objects_of u)) image
linked_too u image formed accepted of =
    let same : layout_of (objects_of u) ≡ unit_layout u = layout_law u formed (linkable_too u accepted.linkable) in
    let alone : AreAlone (unit_layout u).spots =
    subst (λ (l : Layout). AreAlone l.spots) same (sections_alone u accepted) in
    let bytes : (a : ℕ) → byte_at image a ≡ byte_among (unit_layout u).spots a =
    λ a. of.bytes a ∙ sym (runs_law (unit_layout u).globals (based u) a accepted.linkable.disjoint) in
    let linked : IsLinked (unit_layout u) image =
    record { bytes = bytes; count = unit_linked (unit_layout u) image of.is_image alone bytes; start = of.start } in
    subst (λ l. IsLinked l image) (sym same) linked

-- a text is that of one list of objects
ok_same : (os xs : List Object) (r : Result (List Object) ObjectFault) → r ≡ Ok os → r ≡ Ok xs → os ≡ xs
ok_same os xs r h k = cc

pub one_text : (text : List ℕ) (os xs : List Object) → HaveText os → text ≡ objects_text os → HaveText xs
    → text ≡ objects_text xs → os ≡ xs
one_text text os xs have is also too =
    ok_same os xs (read_from 1 nothing_read (ended_lines text)) (written_read text os have is)
    (written_read text xs also too)
