-- The words of an end by a vector.
use Rattle.std.proofs.Common.{append_assoc}
use Rattle.std.specs.Prelude.{codes, decimal}
use Rattle.m88_base.specs.Hex.{hex8}
use Rattle.m88_event.specs.EndText.{end_text}
use Rattle.m88_event.proofs.happened.EndDisplay.fmt.Goals as goal

pub returns-in-Vector-clause-writes : goal.returns-in-Vector-clause-writes
unfolding end_text
returns-in-Vector-clause-writes g c =
    rw (c.in-Vector.is, append_assoc (decimal c.in-Vector.vector) (codes " at ") (hex8 c.in-Vector.at))
    c.write-in-Vector.ensures.writes
