-- The section of the module stands where that of its object does.
use Rattle.std.proofs.Common.{◌∙◌, ℕ, ap}
use Rattle.m88_link.specs.Bases.{Placement}
use Rattle.m88_parse.specs.declared.unit.Module.{Module}
use Rattle.m88_asm.specs.Units.{base_in}
use Rattle.m88_listing.proofs.Standings.{bases_here}
use Rattle.m88_listing.proofs.standing.Standing.base.Goals as goal

pub returns : goal.returns
returns c =
    c.base.ensures ∙ ap (λ (f : ℕ → ℕ). f c.args.index) (bases_here c.self.inside.part.now c.self.inside.object.now c.self.invariant)
    ∙ ap (λ (b : Placement Module). base_in b c.args.index) c.self.view_is
