-- The frame stands in its table.
use Rattle.std.proofs.Common.{◌≡◌, ◌∙◌, ◌/◌, ◌%◌, ap, sym, arith, Some, None, slice_index_or, length}
use Rattle.std.proofs.lemmas.List.{length-set}
use Rattle.m88_mem.proofs.Levels.{at_any, entries_set, frames_kept, same_some, set_twice}
use Rattle.m88_mem.specs.Inside.Frames.{frame_in}
use Rattle.m88_mem.proofs.frames.PageFrames.set_frame.Goals as goal

pub invariant_of-self : goal.invariant_of-self
unfolding frame_in
invariant_of-self c =
    let was : slice_index_or c.self.inside.tables.items (c.args.page / 1024) None ≡ Some c.in-Some.table =
    at_any c.self.inside.tables.items (c.args.page / 1024) None c.index_mut.result.now (omega (arith, c.self.invariant.entries, c.requires.is_page))
    ∙ sym c.index_mut.ensures.value ∙ sym c.in-Some.ensures.value in
    let long : length c.in-Some.table.frames.items ≡ 1024 = c.self.invariant.long (c.args.page / 1024) c.in-Some.table was in
    rw (set_twice c.self.inside.tables.items (c.args.page / 1024))
    (frames_kept c.self.inside.tables.items c.args.page (Some c.in-Some.table) _ (Some c.args.frame) c.self.invariant c.requires.is_page was
    (length-set c.in-Some.table.frames.items (c.args.page % 1024) (Some c.args.frame) ∙ long)
    (entries_set c.in-Some.table.frames.items (c.args.page % 1024) (Some c.args.frame) (omega (arith, long)))
    (λ f e. ap (λ x. length x.words.items) (sym (same_some c.args.frame f e)) ∙ c.requires.words))
