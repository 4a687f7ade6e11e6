-- The runs of the blocks that were passed so far are laid over the room.
use Rattle.std.proofs.Common.{◌≡◌, take}
use Rattle.m88_base.specs.Found.{filled}
use Rattle.m88_base.specs.Inside.Blocks.{all_runs}
use Rattle.m88_base.specs.Placed.{byte_among}
use Rattle.m88_base.proofs.blocks.Blocks.fill.Given as goal

abbrev pub invariant-loop-index : goal.invariant-loop-index
invariant-loop-index l = l.room ≡ filled (byte_among (all_runs (take l.index l.self-inside.blocks.items))) l.at l.fn.room
