-- The instructions that are kept are the image's.
use Rattle.std.proofs.Common.{subst}
use Rattle.std.specs.Prelude.{IfSome, ◌≡◌}
use Rattle.m88_mem.proofs.Kept.{line_of}
use Rattle.m88_mem.specs.DataBus.{MemoryView}
use Rattle.m88_mem.specs.Lines.{IsLine}
use Rattle.m88_mem.proofs.memory.Memory.line.Goals as goal

pub returns : goal.returns
returns c =
    subst (λ (m : MemoryView). IfSome c.line.result (λ line. (line.addr ≡ c.args.addr) × IsLine m.image line)) c.self.view_is
    (line_of c.self.inside.image c.self.inside.lines c.args.addr c.line.result c.self.invariant.lines c.line.ensures)
