-- The lines so far, with those that are left up to the number, are all lines up to there.
use Rattle.m88_base.specs.Image.{byte_at}
use Rattle.m88_listing.proofs.Walking.{IsPart}
use Rattle.m88_listing.proofs.rows.push_part.Given as goal

abbrev pub invariant-loop-slot : goal.invariant-loop-slot
invariant-loop-slot l =
    IsPart (byte_at l.image) l.slots l.slot-index l.source l.rest l.initial.text.items l.text.items l.initial.column l.column l.until
