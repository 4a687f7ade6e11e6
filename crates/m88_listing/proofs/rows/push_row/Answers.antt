-- The lines of a row whose bytes are told as a count, and of one that has a value alone.
use Rattle.m88_base.specs.Image.{byte_at}
use Rattle.m88_listing.proofs.Texts.{counted_row, value_row}
use Rattle.m88_listing.proofs.rows.push_row.Goals as goal

pub returns-in_ok-push_counted-in-Zeros : goal.returns-in_ok-push_counted-in-Zeros
returns-in_ok-push_counted-in-Zeros c =
    counted_row (byte_at c.args.image.now) c.args.number c.args.line.now c.args.text.now.items _ c.args.slot.now c.in-Zeros.is
    c.in_ok-push_counted-in-Zeros.ensures

pub returns-in_ok-push_value-in-Value : goal.returns-in_ok-push_value-in-Value
returns-in_ok-push_value-in-Value c =
    value_row (byte_at c.args.image.now) c.args.number c.args.line.now c.args.text.now.items _ c.args.slot.now c.in-Value.is
    c.in_ok-push_value-in-Value.ensures
