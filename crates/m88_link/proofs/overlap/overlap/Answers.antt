-- Where an address has two bytes, there is a second section that has it.
use Rattle.std.proofs.Common.{◌∙◌, ◌≤◌, subst, sym, ap}
use Rattle.std.specs.Prelude.{option_copied}
use Rattle.m88_link.specs.Refusal.{hits}
use Rattle.m88_link.proofs.Swept.{has_second}
use Rattle.m88_link.proofs.overlap.overlap.Goals as goal

pub unreachable-requires : goal.unreachable-requires
unreachable-requires c =
    let same = c.deref.ensures.value ∙ c.in_ok-extents.ensures in
    has_second c.deref.result.now c.args.at (subst (λ l. 2 ≤ hits l c.args.at) (sym same) c.requires.double)
    (sym c.second_at.ensures ∙ ap (λ o. option_copied o) c.in-None.is)
