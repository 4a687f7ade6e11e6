-- A statement that fits leaves room for its bytes.
use Rattle.std.proofs.Common.{sym, ◌∙◌}
use Rattle.m88_asm.specs.Inside.Drafts.{nth}
use Rattle.m88_asm.proofs.Assembling.{fits}
use Rattle.m88_asm.proofs.assembly.Assembly.prepare.Goals as goal

pub returns-in-None-clause-room : goal.returns-in-None-clause-room
returns-in-None-clause-room c =
    fits (nth c.enter.new.self.sections c.enter.new.self.here) c.args.x.now (sym c.misfit.ensures ∙ c.in-None.is)
