use Rattle.std.proofs.Common.{◌<◌, length, add-zero, arith}
use Rattle.std.proofs.lemmas.Bool.{leb-true, leb-false}
use Rattle.std.proofs.lemmas.List.{get_or-take, get_or-drop, length-take, length-drop}
use Rattle.m88_base.proofs.Cuts.{starts_rise, apart_from_first, apart_drop}
use Rattle.m88_base.proofs.block.locate.Goals as goal

pub begun_by-requires : goal.begun_by-requires
begun_by-requires c = λ i j d p l. starts_rise 0 c.args.runs.now i j d c.requires p l

pub returns : goal.returns
returns c =
    let n = c.begun_by.result in
    let runs = c.args.runs.now in
    record {
      bound = c.begun_by.ensures.bound;
      below = λ k d h.
          let within : k < n = omega (arith, simp length-take at h) in
          rw (get_or-take n runs k d within) (leb-true _ _ (c.begun_by.ensures.parted.0 k d (omega (arith, c.begun_by.ensures.bound)) within));
      above = apart_from_first _ _ _ (apart_drop runs n c.requires) (λ d h.
          let within : n < length runs = omega (arith, simp length-drop at h) in
          rw (get_or-drop, add-zero) (omega (arith, leb-false _ _ (c.begun_by.ensures.parted.1 n d (omega arith) within))));
    }
