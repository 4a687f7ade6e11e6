-- What is collected and what is left are the whole list of `.half`.
use Rattle.std.proofs.Common.{◌+◌, cond, length}
use Rattle.m88_parse.specs.Inside.Grammar.{list_at, a_half, part_item_at}
use Rattle.m88_parse.proofs.CollectingItems.{Collects}
use Rattle.m88_parse.proofs.parser.Parser.half_words.Given as goal

abbrev pub invariant-loop-more : goal.invariant-loop-more
invariant-loop-more l = Collects (part_item_at a_half) l.more l.out.items l.self (list_at (part_item_at a_half) l.fn.self)

abbrev pub decreases-loop-more : goal.decreases-loop-more
decreases-loop-more l = length l.self.rest + cond l.more 1 0
