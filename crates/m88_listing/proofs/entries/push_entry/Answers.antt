-- The parts of the line one after the other.
use Rattle.std.proofs.Common.{◌∙◌, ◌++◌, ap, List, ℕ}
use Rattle.std.specs.Prelude.{decimal}
use Rattle.m88_base.specs.Hex.{hex8}
use Rattle.m88_listing.specs.Entries.{global_mark, section_mark}
use Rattle.m88_listing.proofs.Texts.{entry_whole}
use Rattle.m88_listing.proofs.entries.push_entry.Goals as goal

pub returns : goal.returns
returns c =
    let e = c.args.entry.now in
    entry_whole c.args.text.now.items (hex8 e.value) (section_mark e.section) e.name e.owner (decimal e.line) (global_mark e.global) _ _ _ _ _ _ _ _ _ _
    c.in_ok-push_hex8.ensures c.in_ok-push_section.ensures c.in_ok-push.ensures.items
    (c.in_ok-extend_from_slice.ensures.items ∙ ap (λ (t : List ℕ). c.push.new.self.items ++ t) c.bytes.ensures.value) c.in_ok-push-2.ensures.items
    (c.in_ok-extend_from_slice-2.ensures.items ∙ ap (λ (t : List ℕ). c.push-2.new.self.items ++ t) c.bytes-2.ensures.value) c.in_ok-push-3.ensures.items
    (c.in_ok-push_decimal.ensures ∙ ap (λ (n : ℕ). c.push-3.new.self.items ++ decimal n) c.from.ensures) c.in_ok-push_global.ensures c.in_ok-push-4.ensures.items
