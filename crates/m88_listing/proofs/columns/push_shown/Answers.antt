-- The column of bytes is filled behind the digits.
use Rattle.std.proofs.Common.{arith}
use Rattle.std.specs.Prelude.{decimal}
use Rattle.m88_base.specs.Hex.{hex8}
use Rattle.m88_listing.specs.Columns.{at_right}
use Rattle.m88_listing.specs.Rows.{digits}
use Rattle.m88_listing.proofs.Texts.{filled}
use Rattle.m88_listing.proofs.columns.push_shown.Goals as goal

pub returns : goal.returns
returns c =
    filled c.args.text.now.items (at_right 7 (decimal c.args.number)) (hex8 c.args.at) (digits c.args.bytes.now) c.args.line.now
    _ _ _ c.len-begin.result c.in_ok-push_place.ensures (omega (arith, c.len-begin.ensures, c.push_place.new.text.ok.0)) c.in_ok-push_digits.ensures c.in_ok-push_line.ensures
