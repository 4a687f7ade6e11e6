-- The first word, each further one, and the line's end.
use Rattle.std.proofs.Common.{arith}
use Rattle.m88_sourcing.proofs.WordLines.{all_words, first_word, one_more_word}
use Rattle.m88_sourcing.proofs.lines.push_words.Goals as goal

pub loop-index-init : goal.loop-index-init
loop-index-init c =
    first_word c.args.text.now.items c.extend_from_slice.new.self.items c.push_word.new.text.items c.args.bytes.now
    c.args.count c.requires.some c.in_ok-extend_from_slice.ensures.items c.in_ok-push_word.ensures

pub loop-index-preserved : goal.loop-index-preserved
loop-index-preserved c =
    one_more_word c.loop-index.text.items c.push_word-in-loop-index.new.text.items _ c.args.bytes.now
    c.split_at.result.1.now c.args.count c.loop-index.index c.loop-index-test.true c.split_at.ensures.back
    c.loop-index.invariant c.in_ok-push_word-2.ensures

pub returns : goal.returns
returns c =
    all_words c.args.text.now.items c.loop-index.text.items c.push.new.self.items c.args.bytes.now c.args.count
    c.loop-index.index (omega arith) c.loop-index.invariant c.in_ok-push.ensures.items
