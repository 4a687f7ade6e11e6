-- The bits are those of the set.
use Rattle.std.proofs.Common.{◌∙◌}
use Rattle.m88_mem.proofs.Seen.{seen_marks}
use Rattle.m88_mem.proofs.marks.PageMarks.new.Goals as goal

pub returns : goal.returns
returns c = λ p.
    seen_marks c.in_ok-words.words.items c.in_ok-words.ensures.long p ∙ c.in_ok-words.ensures.marked p
