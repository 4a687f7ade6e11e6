-- The first of the places.
use Rattle.m88_listing.proofs.Lines.{first_feed}
use Rattle.m88_listing.proofs.column.feed_at.Goals as goal

pub returns : goal.returns
returns c = first_feed c.args.text.now c.next.new.self c.next.result c.memchr_iter-feeds.result c.memchr_iter-feeds.ensures.value c.next.ensures.steps
