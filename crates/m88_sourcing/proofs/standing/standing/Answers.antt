-- The bytes from the address on are known.
use Rattle.m88_sourcing.proofs.standing.standing.Goals as goal

pub returns-clause-only : goal.returns-clause-only
returns-clause-only c = λ i holds.
    c.standing_in.ensures.only c.args.image.now i (record { there = c.rest.ensures.there; end = c.rest.ensures.end }) holds
