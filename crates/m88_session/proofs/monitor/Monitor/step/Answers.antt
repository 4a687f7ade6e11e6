-- A walk, and then the line of the counts.
use Rattle.std.proofs.Common.{arith, refl, sym, rules, subst}
use Rattle.m88_board.specs.Walks.{is_made}
use Rattle.m88_session.proofs.Carrying.{carries_counts, carries_none}
use Rattle.m88_session.proofs.MonitorWalks.{BeforeFrom, walked_on}
use Rattle.m88_session.specs.Session.{session_on}
use Rattle.m88_session.specs.declared.monitor.Monitor.{Monitor}
use Rattle.m88_session.specs.declared.script.MonitorCommand.TheVariants.{Step}
use Rattle.m88_session.proofs.monitor.Monitor.step.Goals as goal

pub returns-in_err-go_until : goal.returns-in_err-go_until
returns-in_err-go_until g c = carries_none (Step c.args.count) _ _ _ _ _ _ c.from_residual.result (search rules) (λ d s stands.
    let broke = c.in_err-go_until.ensures.err d s.moment (sym stands.schedule) stands.at in
    let made = subst (BeforeFrom d s (is_made c.args.count) _ _) stands.taken (broke.0, broke.1, broke.2.saw) in
    record { events = made.0; each = made.1; saw = made.2 })

pub returns : goal.returns
unfolding session_on
returns g c =
    let new : Monitor = record { walk = c.go_until.new.self; breakpoints = c.args.self.now.breakpoints } in
    carries_counts (Step c.args.count) _ _ c.args.self.now new _ _ c.push_counts.result (omega arith) (λ d s k. refl)
    (λ d s stands.
    let w = walked_on d s (is_made c.args.count) c.args.self.now new _ _ stands refl c.go_until.ensures.stays
    (c.in_ok-go_until.ensures.ok d s.moment (sym stands.schedule) stands.at) in
    record { events = w.events; makes = w.first; stands = w.stands; saw = w.saw })
    (rw c.board.ensures at c.push_counts.ensures)
