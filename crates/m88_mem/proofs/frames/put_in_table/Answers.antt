-- The frame stands in its table with the word.
use Rattle.std.proofs.Common.{◌≡◌, ◌∙◌, None, Option, Some, ap, arith, refl, slice_index_or, slice_set, sym}
use Rattle.m88_mem.proofs.Levels.{at_any, same_some}
use Rattle.m88_mem.specs.Inside.Frames.{frame_in}
use Rattle.m88_mem.specs.declared.frames.FrameTable.{FrameTable}
use Rattle.m88_mem.specs.declared.frames.PageFrame.{PageFrame}
use Rattle.m88_mem.proofs.frames.put_in_table.Goals as goal

pub returns : goal.returns
unfolding frame_in
returns c = λ other t f was there.
    let same : c.in-Some.table ≡ t = same_some c.in-Some.table t (sym c.in-Some.is ∙ was) in
    let long = rw c.in-Some.is at c.requires.long in
    let slot : slice_index_or c.in-Some.table.frames.items c.args.low None ≡ c.index_mut.result.now =
    at_any c.in-Some.table.frames.items c.args.low None c.index_mut.result.now (omega (arith, c.requires.within, long))
    ∙ sym c.index_mut.ensures.value in
    let found : c.index_mut.result.now ≡ Some f =
    sym slot ∙ ap (λ (o : Option FrameTable). frame_in o c.args.low) (sym c.in-Some.is) ∙ there in
    let put = c.put_in_frame.ensures other f found in
    record {
      table = _;
      frame = put.frame;
      is = refl;
      frames = ap (λ (o : Option PageFrame). slice_set c.in-Some.table.frames.items c.args.low o) put.is
          ∙ ap (λ (x : FrameTable). slice_set x.frames.items c.args.low (Some put.frame)) same;
      words = put.words;
    }
