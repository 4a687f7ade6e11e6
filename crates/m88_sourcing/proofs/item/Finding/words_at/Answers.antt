-- One word more, and all.
use Rattle.std.proofs.Common.{◌≡◌, ◌+◌, ◌*◌, ◌∙◌, true, false, drop, arith}
use Rattle.m88_sourcing.specs.Data.{is_word_here}
use Rattle.m88_sourcing.proofs.Items.{most_found, no_more_words, one_word_more, word_test, word_within}
use Rattle.m88_sourcing.proofs.item.Finding.words_at.Goals as goal

pub returns-then-not-is_word_at-clause-value : goal.returns-then-not-is_word_at-clause-value
returns-then-not-is_word_at-clause-value c =
    no_more_words (c.args.self.now.at + (c.args.place + 4 * c.loop-count.count)) c.loop-count.count _
    (drop (c.args.place + 4 * c.loop-count.count) c.args.self.now.bytes.now)
    (word_test c.args.self.now.at c.loop-count.self.at (c.args.place + 4 * c.loop-count.count) c.args.self.now.bytes.now
    c.loop-count.self.bytes.now c.is_word_at.result false c.loop-count.invariant.same.at
    (λ i. (c.loop-count.invariant.same.bytes i).now) c.is_word_at.ensures.value c.if-not-is_word_at.true)
    c.loop-count.invariant.counted

pub loop-count-preserved : goal.loop-count-preserved
loop-count-preserved c =
    let is : is_word_here (c.args.self.now.at + (c.args.place + 4 * c.loop-count.count))
    (drop (c.args.place + 4 * c.loop-count.count) c.args.self.now.bytes.now)
    ≡ true =
    word_test c.args.self.now.at c.loop-count.self.at (c.args.place + 4 * c.loop-count.count) c.args.self.now.bytes.now
    c.loop-count.self.bytes.now c.is_word_at.result true c.loop-count.invariant.same.at
    (λ i. (c.loop-count.invariant.same.bytes i).now) c.is_word_at.ensures.value c.if-not-is_word_at.false in
    record {
      finding = c.is_word_at.ensures.finding;
      same = record {
        at = c.is_word_at.ensures.same.at ∙ c.loop-count.invariant.same.at;
        bytes = c.is_word_at.ensures.same.bytes ∙ c.loop-count.invariant.same.bytes;
      };
      within = word_within c.args.self.now.at c.args.place c.loop-count.count c.args.self.now.bytes.now
          c.loop-count.invariant.within is;
      counted = one_word_more c.args.self.now.at c.args.place c.loop-count.count _ c.args.self.now.bytes.now
          c.loop-count-test.true is c.loop-count.invariant.counted;
    }

pub returns-clause-value : goal.returns-clause-value
returns-clause-value c =
    most_found (c.args.self.now.at + (c.args.place + 4 * c.loop-count.count)) c.loop-count.count _
    (drop (c.args.place + 4 * c.loop-count.count) c.args.self.now.bytes.now) (omega arith)
    c.loop-count.invariant.counted
