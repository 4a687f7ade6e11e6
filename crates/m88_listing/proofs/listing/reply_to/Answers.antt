-- The listing answers the source, or the text that refuses it for a fault of its statements or of its layout.
use Rattle.std.proofs.Common.{◌≡◌, ◌∙◌, List, [], arith, inl, inr, refl, subst, sym}
use Rattle.std.specs.Prelude.{None, Some}
use Rattle.std.proofs.lemmas.Grind.{common_steps}
use Rattle.m88_link.specs.Layout.{layout_of}
use Rattle.m88_link.specs.Linked.{IsLinked}
use Rattle.m88_link.specs.Reasons.{link_reason}
use Rattle.m88_link.specs.Refusal.{IsLinkable, IsRefused, symbol_fault}
use Rattle.m88_link.specs.declared.object.Object.{Object}
use Rattle.m88_asm.specs.Units.{unit_layout}
use Rattle.m88_listing.proofs.Refitting.{lacks_room, named_kind, no_rows, unlinked_with}
use Rattle.m88_listing.proofs.Verdict.{asm_told}
use Rattle.m88_listing.proofs.listing.reply_to.Goals as goal

pub returns-in-Err-assemble : goal.returns-in-Err-assemble
returns-in-Err-assemble c = elim c.in-Err-assemble.ensures.fault [
  | inl memory ↦ grind (arith, common_steps)
  | inr first ↦ c.unassembled.ensures.refused (inr (record {
    unit = c.in-Ok.unit;
    is_unit = c.in-Ok.ensures.unit;
    fault = c.in-Err-assemble.fault;
    is_first = first;
    refusal = grind (arith, asm_told);
  }))
]

pub returns-in-Err-link_forced : goal.returns-in-Err-link_forced
returns-in-Err-link_forced c = elim c.in-Err-link_forced.ensures.err [
  | inl memory ↦ grind (arith, common_steps)
  | inr found ↦
      let fault = c.in-Err-link_forced.fault in
      let u = c.in-Ok.unit in
      let refused : IsRefused (unit_layout u) fault =
      c.in-Ok-assemble.ensures.refusal fault (subst (λ (os : List Object). IsRefused (layout_of os) fault) c.deref.ensures.value found) in
      elim (lacks_room (layout_of c.deref.result.now) fault found c.in-Err-link_forced.ensures.linked) [
        | inl lacks ↦ c.unplaced.ensures.refused
            (unlinked_with c.args.source.now (link_reason fault.kind) u fault [] c.in-Ok.ensures.unit c.in-Ok-assemble.ensures.accepted refused refl
            (no_rows u fault.kind lacks))
        | inr memory ↦ grind (arith, common_steps)
      ]
]

-- the unit's layout where the linker went on
pub unnamed-requires-clause-unlinked : goal.unnamed-requires-clause-unlinked
unnamed-requires-clause-unlinked c =
    let os = c.deref.result.now in
    let fault = c.in-Some.fault in
    let named : symbol_fault (layout_of os) ≡ Some fault = grind (arith, common_steps) in
    record {
      is_unit = c.in-Ok.ensures.unit;
      formed = c.in-Ok.ensures.formed;
      are_objects = c.deref-in-Some.ensures.value ∙ c.in-Ok-assemble.ensures.objects;
      assembled = c.in-Ok-assemble.ensures.accepted;
      is_refused = c.in-Ok-assemble.ensures.refusal fault
          (subst (λ (xs : List Object). IsRefused (layout_of xs) fault) c.deref.ensures.value
          (inr (inr (c.in-Ok-link_forced.ensures.allocated.0, c.in-Ok-link_forced.ensures.allocated.1, named))));
    }

pub unnamed-requires-clause-kind : goal.unnamed-requires-clause-kind
unnamed-requires-clause-kind c =
    let fault = c.in-Some.fault in
    let named : symbol_fault (layout_of c.deref.result.now) ≡ Some fault = grind (arith, common_steps) in
    named_kind (layout_of c.deref.result.now) fault named

-- and where it met no fault
pub listing-requires-clause-accepted : goal.listing-requires-clause-accepted
listing-requires-clause-accepted c =
    let unit = c.in-Ok.unit in
    let image = c.in-Ok-link_forced.linked.0 in
    let room = c.in-Ok-link_forced.ensures.allocated in
    let named : symbol_fault (layout_of c.deref.result.now) ≡ None = sym c.in-Ok-link_forced.ensures.fault ∙ c.in_default.is in
    let can : IsLinkable (layout_of c.in-Ok-assemble.objects.items) =
    subst (λ (os : List Object). IsLinkable (layout_of os)) c.deref.ensures.value (record { fits = room.0; disjoint = room.1; named = named }) in
    record {
      is_unit = c.in-Ok.ensures.unit;
      formed = c.in-Ok.ensures.formed;
      are_objects = c.deref-2.ensures.value ∙ c.in-Ok-assemble.ensures.objects;
      accepted = record {
        assembled = c.in-Ok-assemble.ensures.accepted;
        linkable = subst IsLinkable (c.in-Ok-assemble.ensures.layout can) can;
      };
      is_image = c.in-Ok-assemble.ensures.linked image c.in-Ok-link_forced.ensures.is_image can
          (subst (λ (os : List Object). IsLinked (layout_of os) image) c.deref.ensures.value (c.in-Ok-link_forced.ensures.whole c.in_default.is));
    }
