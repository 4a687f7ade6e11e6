-- The page's bit is cleared, and no other.
use Rattle.std.proofs.Common.{◌≡◌, ◌∙◌, ◌/◌, arith, slice_index_or}
use Rattle.std.proofs.Math.Path.{fun_ext}
use Rattle.m88_mem.proofs.Levels.{at_any}
use Rattle.m88_mem.proofs.Seen.{seen_without}
use Rattle.m88_mem.proofs.marks.PageMarks.clear.Goals as goal

pub returns : goal.returns
returns c =
    let long = c.self.invariant.long in
    let word : c.index-word.result.now ≡ slice_index_or c.self.inside.words.items (c.args.page / 32) 0 =
    c.index-word.ensures
    ∙ at_any c.self.inside.words.items (c.args.page / 32) c.index-word.result.now 0 (omega (arith, long, c.requires)) in
    rw word (fun_ext (seen_without c.self.inside.words.items _ c.args.page long c.self.view_is c.requires))
