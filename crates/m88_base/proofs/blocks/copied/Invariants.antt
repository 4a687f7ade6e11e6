-- The copy has what was passed so far.
use Rattle.std.proofs.Common.{◌≡◌, take}
use Rattle.m88_base.proofs.blocks.copied.Given as goal

abbrev pub invariant-loop-block : goal.invariant-loop-block
invariant-loop-block l = l.copy.items ≡ take l.block-index l.blocks
