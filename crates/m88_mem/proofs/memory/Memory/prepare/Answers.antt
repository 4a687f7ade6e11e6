-- A page that is ready stays so.
use Rattle.std.proofs.Common.{sym, ◌∙◌}
use Rattle.std.proofs.Math.Path.{fun_ext}
use Rattle.m88_base.specs.Pages.{page_number}
use Rattle.m88_mem.proofs.Seen.{still_there}
use Rattle.m88_mem.specs.DataBus.{ready_of}
use Rattle.m88_mem.proofs.memory.Memory.prepare.Goals as goal

pub returns-then-is_ready-clause-ready : goal.returns-then-is_ready-clause-ready
returns-then-is_ready-clause-ready c =
    fun_ext (still_there (ready_of c.args.self.now) (page_number c.args.addr) (sym c.is_ready.ensures ∙ c.if-is_ready.true))
