-- A relocation that patches no word is the first, and where none is found all patch words.
use Rattle.std.proofs.Common.{arith, length, refl}
use Rattle.m88_link.specs.Sound.{IsPatchIn}
use Rattle.m88_link.proofs.Walks.{all_of, all_one, found_one, len_taken}
use Rattle.m88_link.proofs.walk.walk_relocs.Goals as goal

pub returns-then-not-is_patch_in : goal.returns-then-not-is_patch_in
returns-then-not-is_patch_in c =
    found_one c.args.relocs.now c.loop-index.index c.index-relocs-index.result c.loop-index-test.true c.index-relocs-index.is
    (IsPatchIn c.args.sections.now) c.is_patch_in.result length c.loop-index.index c.loop-index.invariant c.is_patch_in.ensures c.if-not-is_patch_in.true
    (len_taken c.args.relocs.now c.loop-index.index c.index-relocs-index.result c.loop-index-test.true c.index-relocs-index.is)

pub loop-index-preserved : goal.loop-index-preserved
loop-index-preserved c =
    all_one c.args.relocs.now c.loop-index.index c.index-relocs-index.result c.loop-index-test.true c.index-relocs-index.is
    (IsPatchIn c.args.sections.now) c.loop-index.invariant (c.is_patch_in.ensures.0 c.if-not-is_patch_in.false)

pub returns : goal.returns
returns c = (all_of (IsPatchIn c.args.sections.now) c.args.relocs.now c.loop-index.index (omega arith) c.loop-index.invariant, refl)
