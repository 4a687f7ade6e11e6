-- The column of bytes is filled behind the count.
use Rattle.std.proofs.Common.{◌∙◌, ◌++◌, ap, List, ℕ, append_assoc, arith}
use Rattle.std.specs.Prelude.{codes, decimal}
use Rattle.m88_base.specs.Hex.{hex8}
use Rattle.m88_listing.specs.Columns.{at_right}
use Rattle.m88_listing.proofs.Texts.{filled}
use Rattle.m88_listing.proofs.columns.push_counted.Goals as goal

pub returns : goal.returns
returns c =
    filled c.args.text.now.items (at_right 7 (decimal c.args.number)) (hex8 c.args.at) (codes "00 x " ++ decimal c.args.count) c.args.line.now
    _ _ _ c.len-begin.result c.in_ok-push_place.ensures (omega (arith, c.len-begin.ensures, c.push_place.new.text.ok.0))
    (c.in_ok-push_decimal.ensures ∙ ap (λ (t : List ℕ). t ++ decimal c.args.count) c.in_ok-extend_from_slice.ensures.items
    ∙ append_assoc c.push_place.new.text.items (codes "00 x ") (decimal c.args.count))
    c.in_ok-push_line.ensures
