-- The words of the page so far.
use Rattle.std.proofs.Common.{◌≡◌, ◌*◌, ◌+◌}
use Rattle.m88_isa.specs.Bus.{changed_among}
use Rattle.m88_mem.specs.DataBus.{bus_of, image_bus, page_words}
use Rattle.m88_mem.proofs.memory.Memory.changed_in_blank.Given as goal

abbrev pub invariant-loop-place : goal.invariant-loop-place
invariant-loop-place l =
    l.changed.items ≡ changed_among (l.page * page_words + l.place) (image_bus l.self.image) (bus_of l.self)
