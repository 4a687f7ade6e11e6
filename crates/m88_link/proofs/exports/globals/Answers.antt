-- The first of an object's symbols that repeats a name is the first of all objects that does, and those of each object are
-- more that the table took.
use Rattle.std.proofs.Common.{◌≡◌, ◌+◌, [], ◌∙◌, Bool, take, drop, sym, ap, subst, inl, inr, arith}
use Rattle.std.proofs.lemmas.Result.{err_from_is_err_and}
use Rattle.std.specs.Prelude.{Some, flat_map}
use Rattle.m88_link.specs.Bases.{base_of}
use Rattle.m88_link.specs.Inside.Exports.{taken}
use Rattle.m88_link.specs.Inside.Findings.{IsEnded, with_duplicate}
use Rattle.m88_link.specs.Layout.{globals_of}
use Rattle.m88_link.specs.Symbols.{exported}
use Rattle.m88_link.specs.declared.findings.Findings.{Findings}
use Rattle.m88_link.proofs.Exported.{fault_in, fault_in-append, fault_in_within, taken-append}
use Rattle.m88_link.proofs.Found.{duplicate_twice, ended_both}
use Rattle.m88_link.proofs.Parts.{flat_more, flat_parts}
use Rattle.m88_link.proofs.exports.globals.Goals as goal

pub returns-in_err-export_all-clause-ends : goal.returns-in_err-export_all-clause-ends
returns-in_err-export_all-clause-ends c =
    let i = c.loop-placement.placement-index in
    let s = c.placement-item.result in
    let all = c.args.placements.now in
    let fault = c.in_err-export_all.field-0.0 in
    let p = err_from_is_err_and c.from_residual.result c.from_residual.ensures.1 in
    let done = flat_map globals_of (take i all) in
    let inv = c.loop-placement.invariant in
    let mode : c.loop-placement.findings.goes_on ≡ c.args.findings.now.goes_on = ap (λ (f : Findings). f.goes_on) inv.1 in
    let whole = flat_parts globals_of all i s (omega arith) c.placement-item.is in
    rw (p.1, p.2) (elim c.in_err-export_all.ensures.ends [
      | inl memory ↦ inl memory
      | inr found ↦ inr (
        sym mode ∙ found.0,
        ap (fault_in []) whole
            ∙ fault_in_within [] done (globals_of s) (flat_map globals_of (drop (i + 1) all)) fault (inv.2 (sym mode ∙ found.0))
            (subst (λ l. fault_in l (globals_of s) ≡ Some fault) inv.0
            (subst (λ l. fault_in c.loop-placement.table (exported (base_of s) l) ≡ Some fault) c.symbols.ensures.value found.1)),
      )
    ])

pub loop-placement-preserved : goal.loop-placement-preserved
loop-placement-preserved c =
    let i = c.loop-placement.placement-index in
    let s = c.placement-item.result in
    let was = c.args.findings.now in
    let done = flat_map globals_of (take i c.args.placements.now) in
    let one = globals_of s in
    let more = flat_more globals_of c.args.placements.now i s (omega arith) c.placement-item.is in
    let inv = c.loop-placement.invariant in
    let took = c.in_ok-export_all.ensures in
    let own = ap (λ l. exported (base_of s) l) c.symbols.ensures.value in
    let mode = ap (λ (f : Findings). f.goes_on) inv.1 in
    let both = fault_in-append [] done one in (
      took.table ∙ ap (taken c.loop-placement.table) own ∙ ap (λ l. taken l one) inv.0 ∙ sym (taken-append [] done one) ∙ ap (taken []) (sym more),
      took.ends.0
          ∙ ap (λ l. with_duplicate c.loop-placement.findings (fault_in c.loop-placement.table l)) own
          ∙ ap (λ f. with_duplicate f (fault_in c.loop-placement.table one)) inv.1
          ∙ ap (λ l. with_duplicate (with_duplicate was (fault_in [] done)) (fault_in l one)) inv.0
          ∙ duplicate_twice was (fault_in [] done) (fault_in (taken [] done) one)
          ∙ ap (with_duplicate was) (sym both ∙ ap (fault_in []) (sym more)),
      subst (IsEnded was.goes_on) (sym both ∙ ap (fault_in []) (sym more))
          (ended_both was.goes_on (fault_in [] done) (fault_in (taken [] done) one) inv.2
          (subst (λ l. IsEnded was.goes_on (fault_in l one)) inv.0
          (subst (λ l. IsEnded was.goes_on (fault_in c.loop-placement.table l)) own
          (subst (λ (t : Bool). IsEnded t (fault_in c.loop-placement.table (exported (base_of s) c.symbols.result.now))) mode took.ends.1)))),
    )
