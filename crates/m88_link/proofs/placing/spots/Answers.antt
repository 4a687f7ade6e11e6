-- The first of an object's symbols that means nothing is the first of all objects', and so for one that is too far.
use Rattle.std.proofs.Common.{◌≡◌, ◌+◌, ◌∙◌, ◌++◌, Bool, take, drop, sym, ap, subst, inl, inr, arith}
use Rattle.std.proofs.lemmas.Result.{err_from_is_err_and}
use Rattle.std.specs.Prelude.{flat_map}
use Rattle.std.specs.Option.{option_or}
use Rattle.m88_link.specs.Inside.Findings.{IsEnded, with_uses}
use Rattle.m88_link.specs.Inside.Resolved.{all_uses, carried_spots}
use Rattle.m88_link.specs.Refusal.{too_far, too_far_in, undefined, undefined_in}
use Rattle.m88_link.specs.declared.findings.Findings.{Findings}
use Rattle.m88_link.proofs.Found.{ended_both, uses_twice}
use Rattle.m88_link.proofs.Parts.{fault_within, first_fault-append, flat_more, flat_parts}
use Rattle.m88_link.proofs.placing.spots.Goals as goal

pub returns-in_err-own-clause-ends : goal.returns-in_err-own-clause-ends
returns-in_err-own-clause-ends c =
    let g = c.args.globals.now in
    let all = c.args.placements.now in
    let i = c.loop-placement.placement-index in
    let s = c.placement-item.result in
    let uses = flat_map (all_uses g) in
    let inv = c.loop-placement.invariant in
    let mode : c.loop-placement.findings.goes_on ≡ c.args.findings.now.goes_on = ap (λ (f : Findings). f.goes_on) inv.1 in
    let whole = flat_parts (all_uses g) all i s (omega arith) c.placement-item.is in
    let fault = c.in_err-own.field-0.0 in
    let r = c.from_residual in
    let p = err_from_is_err_and r.result r.ensures.1 in
    rw (p.1, p.2) (elim c.in_err-own.ensures.ends [
      | inl memory ↦ inl memory
      | inr found ↦ inr (
        sym mode ∙ found.0,
        ap undefined whole
            ∙ fault_within undefined_in (uses (take i all)) (all_uses g s) (uses (drop (i + 1) all)) fault (inv.2 (sym mode ∙ found.0)) found.1,
      )
    ])

pub loop-placement-preserved : goal.loop-placement-preserved
loop-placement-preserved c =
    let g = c.args.globals.now in
    let all = c.args.placements.now in
    let i = c.loop-placement.placement-index in
    let s = c.placement-item.result in
    let was = c.args.findings.now in
    let inv = c.loop-placement.invariant in
    let mode = ap (λ (f : Findings). f.goes_on) inv.1 in
    let done = flat_map (all_uses g) (take i all) in
    let one = all_uses g s in
    let more = flat_more (all_uses g) all i s (omega arith) c.placement-item.is in
    let names = first_fault-append undefined_in done one in
    let distances = first_fault-append too_far_in done one in (
      c.in_ok-spots.ensures ∙ ap (λ l. l ++ c.in_ok-own.own.items) inv.0 ∙ ap (λ l. flat_map (carried_spots g) (take i all) ++ l) c.in_ok-own.ensures.spots
          ∙ sym (flat_more (carried_spots g) all i s (omega arith) c.placement-item.is),
      c.in_ok-own.ensures.ends.0
          ∙ ap (λ f. with_uses f (undefined one) (too_far one)) inv.1
          ∙ uses_twice was (undefined done) (too_far done) (undefined one) (too_far one)
          ∙ ap (λ o. with_uses was o (option_or (too_far done) (too_far one))) (sym names ∙ ap undefined (sym more))
          ∙ ap (λ o. with_uses was (undefined (flat_map (all_uses g) (take (i + 1) all))) o) (sym distances ∙ ap too_far (sym more)),
      subst (IsEnded was.goes_on) (sym names ∙ ap undefined (sym more))
          (ended_both was.goes_on (undefined done) (undefined one) inv.2
          (subst (λ (t : Bool). IsEnded t (undefined one)) mode c.in_ok-own.ensures.ends.1)),
    )
