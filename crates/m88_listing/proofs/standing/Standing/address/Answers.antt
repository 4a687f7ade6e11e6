-- The sum, modulo 2 ^ 32.
use Rattle.std.proofs.Common.{arith}
use Rattle.m88_listing.proofs.standing.Standing.address.Goals as goal

pub returns : goal.returns
returns c = omega (arith, c.base.ensures)
