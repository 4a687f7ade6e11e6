-- The word of the registers that wait, from the accesses by their places.
use Rattle.std.proofs.Common.{◌≡◌, bit_or, slice_get}
use Rattle.m88_base.specs.RegisterSet.{register_bits}
use Rattle.m88_isa.specs.Bus.{waits_for}
use Rattle.m88_dunit.specs.Inside.Stages.{loaded_set}
use Rattle.m88_dunit.proofs.Loads.{loads_by_place}
use Rattle.m88_dunit.proofs.data_unit.DataUnit.pending_regs.Goals as goal

pub returns : goal.returns
returns c =
    let places : bit_or (loaded_set (slice_get c.args.self.now 0))
    (bit_or (loaded_set (slice_get c.args.self.now 1)) (loaded_set (slice_get c.args.self.now 2)))
    ≡ register_bits (waits_for c.args.self.now) =
    loads_by_place c.args.self.now c.stage.ensures.pending in
    cc
