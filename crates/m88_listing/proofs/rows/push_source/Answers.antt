-- All lines are up to a number that no line has.
use Rattle.std.proofs.Common.{arith}
use Rattle.m88_base.specs.Image.{byte_at}
use Rattle.m88_listing.proofs.Refusing.{source_walked}
use Rattle.m88_listing.proofs.rows.push_source.Goals as goal

pub returns : goal.returns
returns c =
    source_walked (byte_at c.args.image.now) c.args.slots.now c.args.source.now c.args.text.now.items _ _ c.new-column.result _ _ c.new-column.ensures
    (omega (arith, c.requires.short)) c.in_ok-push_part.ensures
