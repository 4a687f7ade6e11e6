-- Zeros and words end within the bytes.
use Rattle.std.proofs.Common.{◌+◌}
use Rattle.m88_sourcing.proofs.Items.{words_end, zeros_end}
use Rattle.m88_sourcing.proofs.item.Finding.item_at.Goals as goal

pub returns-then-zeros-ge-FEWEST_ZEROS-clause-fits :
    goal.returns-then-zeros-ge-FEWEST_ZEROS-clause-fits
returns-then-zeros-ge-FEWEST_ZEROS-clause-fits c = λ some.
    zeros_end c.args.place c.zeros_len-zeros.result c.args.self.now.bytes.now c.split_at.result.1.now c.split_at.ensures.back
    c.requires.within c.zeros_len-zeros.ensures

pub returns-then-words-gt0-clause-fits : goal.returns-then-words-gt0-clause-fits
returns-then-words-gt0-clause-fits c = λ some.
    words_end (c.text_at-text.new.self.at + c.args.place) c.args.place c.words_at-words.result c.args.self.now.bytes.now
    c.text_at-text.new.self.bytes.now (λ i. (c.text_at-text.ensures.same.bytes i).now) c.requires.within
    c.words_at-words.ensures.value
