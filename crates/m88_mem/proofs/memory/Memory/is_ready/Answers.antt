-- A page is ready where it has a frame.
use Rattle.std.proofs.Common.{ap, sym, ◌∙◌}
use Rattle.m88_base.specs.Pages.{page_number}
use Rattle.m88_mem.proofs.Seen.{seen_ready}
use Rattle.m88_mem.specs.DataBus.{MemoryView, ready_of}
use Rattle.m88_mem.proofs.memory.Memory.is_ready.Goals as goal

pub returns : goal.returns
returns c =
    c.is_ready.ensures
    ∙ sym (seen_ready c.self.inside.image c.self.inside.frames c.self.inside.absent c.self.invariant.entries
    (page_number c.args.addr))
    ∙ ap (λ (m : MemoryView). ready_of m (page_number c.args.addr)) c.self.view_is
