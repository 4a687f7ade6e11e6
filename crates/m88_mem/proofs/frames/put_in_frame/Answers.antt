-- The word stands in its place.
use Rattle.std.proofs.Common.{◌≡◌, ap, refl, sym, ◌∙◌, Some, slice_get, slice_set, unwrap_or}
use Rattle.m88_isa.specs.Lanes.{merged}
use Rattle.m88_mem.proofs.Kept.{stands_there}
use Rattle.m88_mem.proofs.Levels.{same_some}
use Rattle.m88_mem.specs.declared.frames.PageFrame.{PageFrame}
use Rattle.m88_mem.proofs.frames.put_in_frame.Goals as goal

pub returns : goal.returns
returns c = λ other f was.
    let same = same_some c.in-Some.frame f (sym c.in-Some.is ∙ was) in
    let within = rw c.in-Some.is at c.requires.within in
    let found : slice_get c.in-Some.frame.words.items c.args.place ≡ Some c.index-word.result.now =
    stands_there c.in-Some.frame.words.items c.args.place c.index-word.result.now within c.index-word.ensures in
    let word : c.index-word.result.now ≡ unwrap_or (slice_get f.words.items c.args.place) other =
    sym (ap (λ (x : PageFrame). unwrap_or (slice_get x.words.items c.args.place) other) (sym same)
    ∙ ap (λ o. unwrap_or o other) found) in
    record {
      frame = _;
      is = refl;
      words = ap (λ new. slice_set c.in-Some.frame.words.items c.args.place new)
          (c.merge.ensures.value ∙ ap (λ w. merged c.args.en c.args.value w) word)
          ∙ ap (λ (x : PageFrame). slice_set x.words.items c.args.place
          (merged c.args.en c.args.value (unwrap_or (slice_get f.words.items c.args.place) other))) same;
    }
