-- The laws of sources that proofs above cite, by their subject.

-- A source has one unit or one first fault.
pub use Rattle.m88_parse.proofs.Law.Faults.{one_verdict as one_source_verdict}
-- the unit of a source that isn't too long can be laid out
pub use Rattle.m88_parse.proofs.FormedUnits.{unit_formed}
-- an ended source has the unit of the source, and is parted from what stands behind it and a line that can't be read
pub use Rattle.m88_parse.proofs.EndedSources.{ended_parted, ended_unit}
-- Lines: a text has no more lines than bytes, and none is longer than the text
pub use Rattle.m88_parse.proofs.FormedUnits.{lines_few}
pub use Rattle.m88_parse.proofs.TokenBounds.{AreShort, lines_short}
-- Tokens: each token of a line that isn't too long stands at a column below 2^32 and has bytes for its text.
pub use Rattle.m88_parse.proofs.TokenBounds.{AreSmall, IsInLine, tokens_in_line}
-- a number with a sign is below its modulus
pub use Rattle.m88_parse.proofs.FormedOperands.{signed_small}
