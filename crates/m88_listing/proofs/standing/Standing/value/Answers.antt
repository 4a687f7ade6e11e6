-- The symbol has the value that linking its object gives it.
use Rattle.std.proofs.Common.{◌∙◌, ℕ, ap}
use Rattle.m88_link.specs.Symbols.{placed_value}
use Rattle.m88_asm.specs.Units.{base_in}
use Rattle.m88_listing.proofs.Standings.{bases_here}
use Rattle.m88_listing.proofs.standing.Standing.value.Goals as goal

pub returns : goal.returns
returns c =
    c.value.ensures ∙ ap (λ (f : ℕ → ℕ). placed_value f c.args.symbol.now.section c.args.symbol.now.value)
    (bases_here c.self.inside.part.now c.self.inside.object.now c.self.invariant ∙ ap base_in c.self.view_is)
