-- The page's bit is set, and a word that was full still is.
use Rattle.std.proofs.Math.Path.{fun_ext}
use Rattle.m88_mem.proofs.Seen.{seen_with}
use Rattle.m88_mem.proofs.marks.PageMarks.mark.Goals as goal

pub returns : goal.returns
returns c =
    fun_ext (seen_with c.self.inside.words.items c.set.new.words.items _ c.args.page c.self.invariant.long c.set.ensures.long
    c.self.view_is c.set.ensures.marked)
