-- The lines of a row whose bytes are shown one by one.
use Rattle.std.proofs.Common.{◌≡◌, ◌≤◌, ◌∙◌, length}
use Rattle.m88_base.specs.Image.{byte_at}
use Rattle.m88_listing.specs.Inside.Slots.{found_bytes}
use Rattle.m88_listing.proofs.Keeping.{front_found, has_all}
use Rattle.m88_listing.proofs.Texts.{shown_row}
use Rattle.m88_listing.proofs.rows.push_bytes.Goals.{After-rest}
use Rattle.m88_listing.proofs.rows.push_bytes.Goals as goal

long : (c : After-rest) → c.args.slot.now.len ≤ length c.rest.result.now
long c = has_all (byte_at c.args.image.now) c.args.slot.now.at c.args.slot.now.len c.rest.result.now c.rest.ensures.end c.requires.kept.has

pub split_at-requires : goal.split_at-requires
split_at-requires c = long ((goal.at.split_at-requires c).After-rest)

pub returns : goal.returns
returns c =
    let k = (goal.at.returns c).After-rest in
    let slot = c.args.slot.now in
    let all : c.split_at.result.0.now ≡ found_bytes (byte_at c.args.image.now) slot.at slot.len =
    c.split_at.ensures.front ∙ front_found (byte_at c.args.image.now) slot.at slot.len c.rest.result.now c.rest.ensures.there (long k) in
    shown_row (byte_at c.args.image.now) c.args.number c.min.result c.args.line.now c.args.text.now.items _ _ c.split_at.result.0.now _ _ slot
    c.requires.bytes all c.min.ensures c.split_at-2.ensures.front c.split_at-2.ensures.back c.in_ok-push_shown.ensures
    c.in_ok-push_further_lines.ensures
