-- A symbol that repeats a name is the first of all that does, and each is one more that the table took.
use Rattle.std.proofs.Common.{◌≡◌, ◌+◌, ◌∷◌, [], ◌∙◌, Bool, take, drop, sym, ap, subst, inl, inr, arith}
use Rattle.std.specs.Prelude.{Some}
use Rattle.m88_link.specs.Bases.{base_of}
use Rattle.m88_link.specs.Inside.Exports.{taken}
use Rattle.m88_link.specs.Inside.Findings.{IsEnded, with_duplicate}
use Rattle.m88_link.specs.Symbols.{exported}
use Rattle.m88_link.specs.declared.findings.Findings.{Findings}
use Rattle.m88_link.proofs.Exported.{fault_in, fault_in-append, fault_in_within, taken-append}
use Rattle.m88_link.proofs.Found.{duplicate_twice, ended_both}
use Rattle.m88_link.proofs.Parts.{exported-append, one_more, parts_at}
use Rattle.m88_link.proofs.exports.export_all.Goals as goal

pub returns-in-Err-clause-ends : goal.returns-in-Err-clause-ends
returns-in-Err-clause-ends c =
    let base = base_of c.args.placement.now in
    let i = c.loop-symbol.symbol-index in
    let x = c.symbol-item.result in
    let old = c.args.table.now in
    let done = exported base (take i c.args.symbols.now) in
    let one = exported base (x ∷ []) in
    let inv = c.loop-symbol.invariant in
    let mode : c.loop-symbol.findings.goes_on ≡ c.args.findings.now.goes_on = ap (λ (f : Findings). f.goes_on) inv.1 in
    let whole = parts_at (exported base) (exported-append base) c.args.symbols.now i x (omega arith) c.symbol-item.is in
    elim c.in-Err.ensures.ends [
      | inl memory ↦ inl memory
      | inr found ↦ inr (
        sym mode ∙ found.0,
        ap (fault_in old) whole
            ∙ fault_in_within old done one (exported base (drop (i + 1) c.args.symbols.now)) c.in-Err.fault (inv.2 (sym mode ∙ found.0))
            (subst (λ l. fault_in l one ≡ Some c.in-Err.fault) inv.0 found.1),
      )
    ]

pub loop-symbol-preserved : goal.loop-symbol-preserved
loop-symbol-preserved c =
    let base = base_of c.args.placement.now in
    let i = c.loop-symbol.symbol-index in
    let x = c.symbol-item.result in
    let old = c.args.table.now in
    let was = c.args.findings.now in
    let done = exported base (take i c.args.symbols.now) in
    let one = exported base (x ∷ []) in
    let more = one_more (exported base) (exported-append base) c.args.symbols.now i x (omega arith) c.symbol-item.is in
    let inv = c.loop-symbol.invariant in
    let mode = ap (λ (f : Findings). f.goes_on) inv.1 in
    let both = fault_in-append old done one in (
      c.in-Ok.ensures.table ∙ ap (λ l. taken l one) inv.0 ∙ sym (taken-append old done one) ∙ ap (taken old) (sym more),
      c.in-Ok.ensures.ends.0
          ∙ ap (λ f. with_duplicate f (fault_in c.loop-symbol.table one)) inv.1
          ∙ ap (λ l. with_duplicate (with_duplicate was (fault_in old done)) (fault_in l one)) inv.0
          ∙ duplicate_twice was (fault_in old done) (fault_in (taken old done) one)
          ∙ ap (with_duplicate was) (sym both ∙ ap (fault_in old) (sym more)),
      subst (IsEnded was.goes_on) (sym both ∙ ap (fault_in old) (sym more))
          (ended_both was.goes_on (fault_in old done) (fault_in (taken old done) one) inv.2
          (subst (λ l. IsEnded was.goes_on (fault_in l one)) inv.0
          (subst (λ (t : Bool). IsEnded t (fault_in c.loop-symbol.table one)) mode c.in-Ok.ensures.ends.1))),
    )
