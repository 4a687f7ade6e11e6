-- One relocation carried out leaves the others to carry out, and its section as long as it was. A symbol that means
-- nothing is the first of all, and each first fault stays the first.
use Rattle.std.proofs.Common.{◌≡◌, ◌+◌, ◌∷◌, [], ◌∙◌, Bool, take, drop, sym, ap, subst, inl, inr, arith}
use Rattle.std.proofs.lemmas.List.{map-append}
use Rattle.std.specs.Prelude.{All}
use Rattle.std.specs.Option.{option_or}
use Rattle.m88_link.specs.Inside.Carried.{HasWord}
use Rattle.m88_link.specs.Inside.Findings.{IsEnded, with_uses}
use Rattle.m88_link.specs.Inside.Resolved.{carried_known, use_in, uses_in}
use Rattle.m88_link.specs.Refusal.{too_far, too_far_in, undefined, undefined_in}
use Rattle.m88_link.specs.declared.findings.Findings.{Findings}
use Rattle.m88_link.proofs.Carried.{known_more, words_kept}
use Rattle.m88_link.proofs.Found.{ended_both, uses_twice}
use Rattle.m88_link.proofs.Parts.{fault_within, first_fault-append, one_more, parts_at}
use Rattle.m88_link.proofs.placing.carry_out.Goals as goal

pub returns-in-Err-clause-ends : goal.returns-in-Err-clause-ends
returns-in-Err-clause-ends c =
    let g = c.args.globals.now in
    let s = c.args.placement.now in
    let rs = c.args.relocs.now in
    let i = c.loop-reloc.reloc-index in
    let x = c.reloc-item.result in
    let inv = c.loop-reloc.invariant in
    let mode : c.loop-reloc.findings.goes_on ≡ c.args.findings.now.goes_on = ap (λ (f : Findings). f.goes_on) inv.2 in
    let whole = parts_at (uses_in g s) (map-append (use_in g s)) rs i x (omega arith) c.reloc-item.is in
    elim c.in-Err.ensures.ends [
      | inl memory ↦ inl memory
      | inr found ↦ inr (
        sym mode ∙ found.0,
        ap undefined whole
            ∙ fault_within undefined_in (uses_in g s (take i rs)) (uses_in g s (x ∷ [])) (uses_in g s (drop (i + 1) rs)) c.in-Err.fault
            (inv.3 (sym mode ∙ found.0)) found.1,
      )
    ]

pub loop-reloc-preserved : goal.loop-reloc-preserved
loop-reloc-preserved c =
    let g = c.args.globals.now in
    let s = c.args.placement.now in
    let rs = c.args.relocs.now in
    let i = c.loop-reloc.reloc-index in
    let x = c.reloc-item.result in
    let items = c.loop-reloc.spots.items in
    let was = c.args.findings.now in
    let inv = c.loop-reloc.invariant in
    let mode = ap (λ (f : Findings). f.goes_on) inv.2 in
    let more = one_more (uses_in g s) (map-append (use_in g s)) rs i x (omega arith) c.reloc-item.is in
    let done = uses_in g s (take i rs) in
    let one = uses_in g s (x ∷ []) in
    let names = first_fault-append undefined_in done one in
    let distances = first_fault-append too_far_in done one in (
      ap (carried_known g s (drop (i + 1) rs)) c.in-Ok.ensures.spots
          ∙ sym (known_more g s rs i x items (omega arith) c.reloc-item.is)
          ∙ inv.0,
      subst (λ l. All (HasWord l) rs) (sym c.in-Ok.ensures.spots)
          (words_kept g s x rs items (subst (λ r. HasWord items r) (sym c.reloc-item.is) (inv.1 i x (omega arith))) inv.1),
      c.in-Ok.ensures.ends.0
          ∙ ap (λ f. with_uses f (undefined one) (too_far one)) inv.2
          ∙ uses_twice was (undefined done) (too_far done) (undefined one) (too_far one)
          ∙ ap (λ o. with_uses was o (option_or (too_far done) (too_far one))) (sym names ∙ ap undefined (sym more))
          ∙ ap (λ o. with_uses was (undefined (uses_in g s (take (i + 1) rs))) o) (sym distances ∙ ap too_far (sym more)),
      subst (IsEnded was.goes_on) (sym names ∙ ap undefined (sym more))
          (ended_both was.goes_on (undefined done) (undefined one) inv.3
          (subst (λ (t : Bool). IsEnded t (undefined one)) mode c.in-Ok.ensures.ends.1)),
    )
