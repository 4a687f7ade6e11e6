-- One value more keeps what the loop of `words_list` keeps; a fault in a value is the fault of the list.
use Rattle.std.proofs.lemmas.Result.{err_from_is_err_and}
use Rattle.m88_parse.specs.Inside.Grammar.{list_at, word_item_at}
use Rattle.m88_parse.proofs.CollectingItems.{collects_more, collects_fault}
use Rattle.m88_parse.proofs.parser.Parser.words_list.Goals as goal

pub returns-in_err-value : goal.returns-in_err-value
returns-in_err-value c =
    let p = err_from_is_err_and c.from_residual-in_err-value.result c.from_residual-in_err-value.ensures.1 in
    rw (p.1, p.2) (collects_fault word_item_at c.loop-more.out.items c.loop-more.self c.in_err-value.field-0.0 (list_at word_item_at c.args.self.now) (rw c.loop-more-test.true at c.loop-more.invariant) c.in_err-value.ensures.value)

pub loop-more-preserved : goal.loop-more-preserved
loop-more-preserved c = rw (c.in_ok-push.ensures.items, c.comma-more.ensures.value, c.comma-more.ensures.after) (collects_more word_item_at c.loop-more.out.items c.in_ok-value.value c.loop-more.self c.value.new.self (list_at word_item_at c.args.self.now) (rw c.loop-more-test.true at c.loop-more.invariant) c.in_ok-value.ensures.value c.in_ok-value.ensures.shorter)
