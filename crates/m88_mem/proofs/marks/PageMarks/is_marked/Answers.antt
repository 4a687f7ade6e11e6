-- The page's bit.
use Rattle.std.proofs.Common.{◌≡◌, ◌∙◌, ◌/◌, ◌%◌, ◌^◌, ◌==◌, ap, arith, slice_index_or, sym}
use Rattle.m88_mem.proofs.Levels.{at_any}
use Rattle.m88_mem.proofs.Seen.{seen_marks}
use Rattle.m88_mem.specs.Inside.Marks.{is_in}
use Rattle.m88_mem.proofs.marks.PageMarks.is_marked.Goals as goal

pub returns : goal.returns
returns c =
    let long = c.self.invariant.long in
    let word : c.index.result.now ≡ slice_index_or c.self.inside.words.items (c.args.page / 32) 0 =
    c.index.ensures
    ∙ at_any c.self.inside.words.items (c.args.page / 32) c.index.result.now 0 (omega (arith, long, c.requires)) in
    ap (λ w. w / 2 ^ (c.args.page % 32) % 2 == 1) word
    ∙ sym (seen_marks c.self.inside.words.items long c.args.page) ∙ ap (λ set. is_in set c.args.page) c.self.view_is
