-- The page is taken out of the pages that are absent.
use Rattle.std.proofs.Common.{false, ap, ◌∙◌}
use Rattle.m88_mem.specs.DataBus.{MemoryView, absent_of}
use Rattle.m88_mem.specs.Marks.{with_page}
use Rattle.m88_mem.proofs.memory.Memory.supply.Goals as goal

pub returns-clause-absent : goal.returns-clause-absent
unfolding absent_of
returns-clause-absent c =
    c.clear.ensures ∙ ap (λ (m : MemoryView). with_page c.args.page false (absent_of m)) c.self.view_is
