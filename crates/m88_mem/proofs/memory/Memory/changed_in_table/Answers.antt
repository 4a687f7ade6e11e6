-- The words of the table's pages.
use Rattle.std.proofs.Common.{◌∙◌, ap, arith}
use Rattle.m88_isa.specs.Bus.{changed_among}
use Rattle.m88_mem.specs.DataBus.{bus_of, image_bus}
use Rattle.m88_mem.proofs.memory.Memory.changed_in_table.Goals as goal

pub loop-low-preserved : goal.loop-low-preserved
loop-low-preserved c =
    c.in_ok-changed_in_page.ensures
    ∙ ap (λ n. changed_among n (image_bus c.args.self.now.image) (bus_of c.args.self.now)) (omega arith)
