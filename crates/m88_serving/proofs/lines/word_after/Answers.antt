-- A text of fewer than eight bytes begins with no word.
use Rattle.std.proofs.Common.{◌∙◌, ap}
use Rattle.std.specs.Prelude.{option_and_then}
use Rattle.m88_serving.specs.Lines.{word_after, word_first}
use Rattle.m88_serving.proofs.Taken.{short_word}
use Rattle.m88_serving.proofs.lines.word_after.Goals as goal

pub returns-then-rest-lt8 : goal.returns-then-rest-lt8
unfolding word_after
returns-then-rest-lt8 c = ap (option_and_then word_first) c.in_ok-rest.ensures ∙ short_word c.in_ok-rest.rest.now c.if-rest-lt8.true
