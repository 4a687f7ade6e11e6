-- Words that are full name all pages.
use Rattle.std.proofs.Common.{◌∙◌}
use Rattle.std.proofs.Math.Path.{fun_ext}
use Rattle.m88_mem.proofs.Bits.{full_marked}
use Rattle.m88_mem.proofs.Seen.{seen_marks}
use Rattle.m88_mem.proofs.marks.PageMarks.mark_all.Goals as goal

pub returns : goal.returns
returns c =
    let full = c.fill_gaps.ensures in
    fun_ext (λ p. seen_marks c.fill_gaps.new.words.items full.0 p ∙ full_marked c.fill_gaps.new.words.items full.0 full.1 p)
