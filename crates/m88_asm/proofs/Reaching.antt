-- Where no refusal of linking occurs, each symbol can be replaced, so objects and unit have one layout.
use Rattle.std.proofs.Common.{ℕ, suc, Bool, true, false, ◌≡◌, ◌+◌, ◌%◌, ◌^◌, List, [], ◌∷◌, ◌++◌, map, Option, Some, None, refl, ◌∙◌, ap, subst, arith}
use Rattle.std.specs.Prelude.{flat_map, if◌then◌else◌, unwrap_or}
use Rattle.std.specs.List.{All}
use Rattle.std.specs.Option.{option_map, option_or}
use Rattle.m88_base.specs.Image.{ProgramImage}
use Rattle.m88_base.specs.Placed.{Placed}
use Rattle.m88_parse.specs.declared.unit.Module.{Module}
use Rattle.m88_parse.specs.declared.unit.Unit.{Unit as Source}
use Rattle.m88_parse.specs.WellFormed.{IsFormedModule, IsWellFormed}
use Rattle.m88_link.specs.declared.fault.LinkFault.{LinkFault}
use Rattle.m88_link.specs.declared.object.Reloc.{Reloc}
use Rattle.m88_link.specs.declared.object.Symbol.{Symbol}
use Rattle.m88_base.specs.Pages.{page_bytes}
use Rattle.m88_link.specs.Bases.{Placement, first_text, stood_from, text_end, up_to_multiple}
use Rattle.m88_link.specs.Field.{is_in_reach}
use Rattle.m88_link.specs.Layout.{Extent, Layout, Reference, layout_of, reference}
use Rattle.m88_link.specs.Linked.{IsLinked}
use Rattle.m88_link.specs.Refusal.{IsLinkable, IsRefused, duplicate, first_fault, too_far, too_far_in, undefined, undefined_in}
use Rattle.m88_link.specs.Symbols.{symbol_meaning}
use Rattle.m88_asm.specs.Objects.{lines_in, objects_of, symbols_in, symbol_uses}
use Rattle.m88_asm.specs.Units.{base_in, based, references_in, section_length, unit_layout, value_in_module}
use Rattle.m88_asm.proofs.Assembling.{none_of_both}
use Rattle.m88_asm.proofs.Composing.{CanFill, CanReach, EachBased, extents_law, globals_law, references_law, spots_law}
use Rattle.m88_asm.proofs.Relocating.{AreInReach}

no_fault_else : {A : Type 0} (b : Bool) (x : A) → (if b then None else Some x) ≡ None → b ≡ true
no_fault_else true x h = refl
no_fault_else false x h = cc

-- a use whose symbol means something that its field can take
one_reaches : (base : ℕ → ℕ) (r : Reloc) (meaning : Option ℕ)
    → undefined_in (record { kind = r.kind; at = base r.section + r.offset; name = r.symbol; target = option_map (λ v. (v + r.addend) % 2 ^ 32) meaning; line = r.line; col = r.col }) ≡ None
    → too_far_in (record { kind = r.kind; at = base r.section + r.offset; name = r.symbol; target = option_map (λ v. (v + r.addend) % 2 ^ 32) meaning; line = r.line; col = r.col }) ≡ None
    → is_in_reach r.kind ((unwrap_or meaning 0 + r.addend) % 2 ^ 32) (base r.section + r.offset) ≡ true
one_reaches base r None u f = cc
one_reaches base r (Some v) u f = no_fault_else _ _ f

uses_reach : (globals : List Symbol) (b : Placement Module) (us : List Reloc)
    → undefined (map (reference globals (base_in b) (symbols_in b.part)) us) ≡ None
    → too_far (map (reference globals (base_in b) (symbols_in b.part)) us) ≡ None
    → AreInReach (value_in_module globals b) (base_in b) us
uses_reach globals b [] u f = tt
uses_reach globals b (r ∷ us) u f =
    let p = none_of_both _ _ u in
    let q = none_of_both _ _ f in
    (one_reaches (base_in b) r (symbol_meaning globals (base_in b) (symbols_in b.part) r.symbol) p.0 q.0, uses_reach globals b us p.1 q.1)

first_fault-append : {A : Type 0} (f : A → Option LinkFault) (xs ys : List A) → first_fault f (xs ++ ys) ≡ None → (first_fault f xs ≡ None) × (first_fault f ys ≡ None)
first_fault-append f [] ys h = (refl, h)
first_fault-append f (x ∷ xs) ys h =
    let p = none_of_both (f x) (first_fault f (xs ++ ys)) h in
    let q = first_fault-append f xs ys p.1 in
    (ap (λ o. option_or o (first_fault f xs)) p.0 ∙ q.0, q.1)

each_reaches : (globals : List Symbol) (bs : List (Placement Module)) → undefined (flat_map (references_in globals) bs) ≡ None
    → too_far (flat_map (references_in globals) bs) ≡ None → EachBased (CanReach globals) bs
each_reaches globals [] u f = tt
each_reaches globals (b ∷ bs) u f =
    let p = first_fault-append undefined_in (references_in globals b) (flat_map (references_in globals) bs) u in
    let q = first_fault-append too_far_in (references_in globals b) (flat_map (references_in globals) bs) f in
    (uses_reach globals b (flat_map symbol_uses (lines_in b.part)) p.0 q.0, each_reaches globals bs p.1 q.1)

each_formed : (text datas : ℕ) (ms : List Module) → All IsFormedModule ms → EachBased (λ b. IsFormedModule b.part) (stood_from section_length text datas ms)
each_formed text datas [] h = tt
each_formed text datas (m ∷ ms) h =
    (h 0 m (omega arith), each_formed (up_to_multiple 8 text + section_length 0 m) (up_to_multiple 8 datas + section_length 1 m) ms (λ k d l. h (suc k) d (omega arith)))

both_each : (P Q : Placement Module → Type 0) (bs : List (Placement Module)) → EachBased P bs → EachBased Q bs → EachBased (λ b. P b × Q b) bs
both_each P Q [] p q = tt
both_each P Q (b ∷ bs) p q = ((p.0, q.0), both_each P Q bs p.1 q.1)

-- what linking finds in the objects it finds in the unit

same_layout : (spots spots' : List Placed) (globals globals' : List Symbol) (references references' : List Reference) (extents extents' : List Extent)
    → spots ≡ spots' → globals ≡ globals' → references ≡ references' → extents ≡ extents'
    → ◌≡◌ {A = Layout} (record { spots = spots; globals = globals; references = references; extents = extents })
    (record { spots = spots'; globals = globals'; references = references'; extents = extents' })
same_layout spots spots' globals globals' references references' extents extents' a b c d =
    ap (λ x. let l : Layout = record { spots = x; globals = globals; references = references; extents = extents } in l) a
    ∙ ap (λ x. let l : Layout = record { spots = spots'; globals = x; references = references; extents = extents } in l) b
    ∙ ap (λ x. let l : Layout = record { spots = spots'; globals = globals'; references = x; extents = extents } in l) c
    ∙ ap (λ x. let l : Layout = record { spots = spots'; globals = globals'; references = references'; extents = x } in l) d

-- the layout but for its bytes
abbrev with_spots : List Placed → Layout → Layout
with_spots spots l = record { spots = spots; globals = l.globals; references = l.references; extents = l.extents }

same_but_spots : (u : Source) (spots : List Placed) → with_spots spots (layout_of (objects_of u)) ≡ with_spots spots (unit_layout u)
same_but_spots u spots = same_layout spots spots _ _ _ _ _ _ refl (globals_law u) (references_law u) (extents_law u)

pub refused_law : (u : Source) (fault : LinkFault) → IsRefused (layout_of (objects_of u)) fault → IsRefused (unit_layout u) fault
refused_law u fault h = subst (λ l. IsRefused l fault) (same_but_spots u []) h

pub linkable_law : (u : Source) → IsLinkable (layout_of (objects_of u)) → IsLinkable (unit_layout u)
linkable_law u h =
    let l : IsLinkable (with_spots [] (layout_of (objects_of u))) = record { fits = h.fits; disjoint = h.disjoint; named = h.named } in
    let m = subst IsLinkable (same_but_spots u []) l in
    record { fits = m.fits; disjoint = m.disjoint; named = m.named }

-- each symbol of an accepted unit can be replaced
pub each_fills : (u : Source) → IsWellFormed u → IsLinkable (unit_layout u) → EachBased (CanFill (unit_layout u).globals) (based u)
each_fills u w h =
    let l = unit_layout u in
    let p = none_of_both (duplicate l.globals) (option_or (undefined l.references) (too_far l.references)) h.named in
    let q = none_of_both (undefined l.references) (too_far l.references) p.1 in
    both_each (λ b. IsFormedModule b.part) (CanReach l.globals) (based u)
    (each_formed first_text (up_to_multiple page_bytes (text_end section_length first_text u.modules)) u.modules w.each)
    (each_reaches l.globals (based u) q.0 q.1)

pub layout_law : (u : Source) → IsWellFormed u → IsLinkable (layout_of (objects_of u)) → layout_of (objects_of u) ≡ unit_layout u
layout_law u w h = same_layout _ _ _ _ _ _ _ _ (spots_law u (each_fills u w (linkable_law u h))) (globals_law u) (references_law u) (extents_law u)

pub linked_law : (u : Source) (image : ProgramImage) → IsWellFormed u → IsLinkable (layout_of (objects_of u)) → IsLinked (layout_of (objects_of u)) image → IsLinked (unit_layout u) image
linked_law u image w h linked = subst (λ l. IsLinked l image) (layout_law u w h) linked
