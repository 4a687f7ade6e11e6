-- No row is shown.
use Rattle.std.proofs.Common.{◌≡◌, [], List, ℕ, arith, subst, sym}
use Rattle.std.specs.Prelude.{string_bytes}
use Rattle.std.proofs.lemmas.Grind.{common_steps}
use Rattle.m88_link.specs.Reasons.{link_reason}
use Rattle.m88_listing.specs.Answer.{IsRefusedWith}
use Rattle.m88_listing.proofs.listing.unplaced.Goals as goal

pub returns-clause-refused : goal.returns-clause-refused
returns-clause-refused c = λ refused.
    let said : string_bytes c.in_ok-reason.reason ≡ link_reason c.args.fault.kind = grind (arith, common_steps) in
    c.refuse_bare.ensures
    (subst (λ (t : List ℕ). IsRefusedWith c.args.source.now (record { line = c.args.fault.line; column = c.args.fault.col; reason = t }) []) (sym said) refused)
