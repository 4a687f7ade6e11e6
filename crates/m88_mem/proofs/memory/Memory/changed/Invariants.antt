-- The words of the tables so far.
use Rattle.std.proofs.Common.{◌≡◌, ◌*◌}
use Rattle.m88_isa.specs.Bus.{changed_among}
use Rattle.m88_mem.specs.DataBus.{bus_of, image_bus, page_words}
use Rattle.m88_mem.specs.Inside.Frames.{table_entries}
use Rattle.m88_mem.proofs.memory.Memory.changed.Given as goal

abbrev pub invariant-loop-high : goal.invariant-loop-high
invariant-loop-high l =
    l.changed.items ≡ changed_among (l.high * table_entries * page_words) (image_bus l.self.image) (bus_of l.self)
