-- The start, the far targets and the parts are the source.
use Rattle.m88_sourcing.specs.Said.{told}
use Rattle.m88_sourcing.proofs.Written.{whole_source}
use Rattle.m88_sourcing.proofs.source.written.Goals as goal

pub returns-clause-text : goal.returns-clause-text
returns-clause-text c =
    whole_source c.args.image.now (told c.args.said.now) c.in_ok-outline.outline c.start.result c.new-text.result.items
    c.push_start_number.new.text.items c.push_all_far.new.text.items c.push_parts.new.text.items c.start.ensures
    c.new-text.ensures.items c.in_ok-outline.ensures c.in_ok-push_start_number.ensures
    c.in_ok-push_all_far.ensures
    (c.in_ok-push_parts.ensures.lines (told c.args.said.now) c.in_ok-outline.ensures)
