-- The page is put into the pages that are absent, or taken out of them.
use Rattle.std.proofs.Common.{Bool, true, false, ap, sym, ◌∙◌}
use Rattle.m88_mem.specs.DataBus.{MemoryView, absent_of}
use Rattle.m88_mem.specs.Marks.{with_page}
use Rattle.m88_mem.proofs.memory.Memory.set_absent.Goals as goal

pub returns-then-absent-clause-absent : goal.returns-then-absent-clause-absent
unfolding absent_of
returns-then-absent-clause-absent c =
    c.mark.ensures
    ∙ ap (λ (m : MemoryView). with_page c.args.page true (absent_of m)) c.self.view_is
    ∙ ap (λ (there : Bool). with_page c.args.page there (absent_of c.args.self.now)) (sym c.if-absent.true)

pub returns-else-absent-clause-absent : goal.returns-else-absent-clause-absent
unfolding absent_of
returns-else-absent-clause-absent c =
    c.clear.ensures
    ∙ ap (λ (m : MemoryView). with_page c.args.page false (absent_of m)) c.self.view_is
    ∙ ap (λ (there : Bool). with_page c.args.page there (absent_of c.args.self.now)) (sym c.if-absent.false)
