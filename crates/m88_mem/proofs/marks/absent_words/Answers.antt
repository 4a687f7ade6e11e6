-- Words of ones name all pages, and words of zeros none.
use Rattle.std.proofs.Common.{ap, sym, ◌∙◌}
use Rattle.m88_mem.proofs.Bits.{all_marked, none_marked}
use Rattle.m88_mem.specs.Marks.{absent_in}
use Rattle.m88_mem.proofs.marks.absent_words.Goals as goal

pub returns-in_ok-words-in-None-clause-marked : goal.returns-in_ok-words-in-None-clause-marked
returns-in_ok-words-in-None-clause-marked c = λ p.
    c.in_ok-words-in-None.ensures.marked p ∙ none_marked p ∙ ap (λ choice. absent_in choice p) (sym c.in-None.is)

pub returns-in_ok-words-in-All-clause-marked : goal.returns-in_ok-words-in-All-clause-marked
returns-in_ok-words-in-All-clause-marked c = λ p.
    c.in_ok-words-in-All.ensures.marked p ∙ all_marked p ∙ ap (λ choice. absent_in choice p) (sym c.in-All.is)
