-- The words of the table's pages so far.
use Rattle.std.proofs.Common.{◌≡◌, ◌*◌, ◌+◌}
use Rattle.m88_isa.specs.Bus.{changed_among}
use Rattle.m88_mem.specs.DataBus.{bus_of, image_bus, page_words}
use Rattle.m88_mem.specs.Inside.Frames.{table_entries}
use Rattle.m88_mem.proofs.memory.Memory.changed_in_table.Given as goal

abbrev pub invariant-loop-low : goal.invariant-loop-low
invariant-loop-low l =
    l.changed.items
    ≡ changed_among ((l.high * table_entries + l.low) * page_words) (image_bus l.self.image) (bus_of l.self)
