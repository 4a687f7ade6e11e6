-- The parts of the line one after the other.
use Rattle.std.proofs.Common.{◌∙◌, ◌++◌, ap, ℕ}
use Rattle.std.specs.Prelude.{decimal}
use Rattle.m88_base.specs.Hex.{hex8}
use Rattle.m88_listing.specs.Sums.{is_at, is_data, is_text, sum_where}
use Rattle.m88_listing.proofs.Texts.{sums_whole}
use Rattle.m88_listing.proofs.sums.push_sums.Goals as goal

pub returns : goal.returns
returns c =
    let os = c.args.objects.now in
    sums_whole c.args.text.now.items (decimal (sum_where is_text os)) (decimal (sum_where is_data os)) (decimal (sum_where is_at os)) (hex8 c.args.start)
    _ _ _ _ _ _ _ _ _ c.in_ok-extend_from_slice.ensures.items
    (c.in_ok-push_decimal.ensures ∙ ap (λ (n : ℕ). c.extend_from_slice.new.self.items ++ decimal n) c.sums_of-sums.ensures.text)
    c.in_ok-extend_from_slice-2.ensures.items
    (c.in_ok-push_decimal-2.ensures ∙ ap (λ (n : ℕ). c.extend_from_slice-2.new.self.items ++ decimal n) c.sums_of-sums.ensures.data)
    c.in_ok-extend_from_slice-3.ensures.items
    (c.in_ok-push_decimal-3.ensures ∙ ap (λ (n : ℕ). c.extend_from_slice-3.new.self.items ++ decimal n) c.sums_of-sums.ensures.at)
    c.in_ok-extend_from_slice-4.ensures.items c.in_ok-push_hex8.ensures c.in_ok-push.ensures.items
