-- The plan is that of the instruction.
use Rattle.std.proofs.Common.{subst, ◌≡◌}
use Rattle.m88_isa.specs.Bus.{listed}
use Rattle.m88_isa.specs.declared.planned.Effect.{Effect}
use Rattle.m88_isa.specs.declared.planned.Plan.{Plan}
use Rattle.m88_trace.proofs.Writing.{ok_on}
use Rattle.m88_trace.specs.Inside.Doings.{doing_line}
use Rattle.m88_trace.specs.Inside.Sheets.{CanAdd, HasAdded}
use Rattle.m88_trace.specs.declared.doing.Doing.TheVariants.{Goes}
use Rattle.m88_trace.proofs.sheet.Sheet.note_issued.Goals as goal

pub issue-requires : goal.issue-requires
issue-requires c = subst (λ (plan : Plan). CanAdd plan c.args.self.now) c.in-Go.is c.requires

pub returns-in-Go-clause-added : goal.returns-in-Go-clause-added
returns-in-Go-clause-added c = ok_on c.issue.result c.issue.ensures (λ added effect is.
    let next = c.args.next.now in
    let same : c.in-Go.effect ≡ effect = cc in
    subst (λ (e : Effect).
    HasAdded (doing_line next.number next.at c.args.told.now.word (Goes e)) (listed e.accesses) c.args.self.now
    c.issue.new.self)
    same added)

pub returns-in_default-clause-added : goal.returns-in_default-clause-added
returns-in_default-clause-added c = λ effect is. absurd (c.in_default.not-Go effect is)
