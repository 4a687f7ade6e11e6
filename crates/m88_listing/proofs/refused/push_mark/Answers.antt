-- What stands below the bytes before the column.
use Rattle.std.proofs.Common.{◌∙◌, ap, min, length, ℕ}
use Rattle.m88_listing.proofs.Texts.{mark_whole}
use Rattle.m88_listing.proofs.refused.push_mark.Goals as goal

pub returns : goal.returns
returns c =
    mark_whole c.args.text.now.items c.args.line.now c.split_at.result.0.now _ _ _ c.args.column c.min.result
    (c.min.ensures ∙ ap (λ (n : ℕ). min (length c.args.line.now) n) c.saturating_sub.ensures) c.split_at.ensures.front
    c.in_ok-extend_from_slice.ensures.items c.in_ok-push_below.ensures c.in_ok-extend_from_slice-2.ensures.items
