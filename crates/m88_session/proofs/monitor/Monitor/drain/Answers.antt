-- The events, and then the line of the counts.
use Rattle.std.proofs.Common.{Bor, List, ℕ, ap, arith, refl, rules, ◌∙◌}
use Rattle.m88_event.specs.declared.letter.Letter.{Letter}
use Rattle.m88_session.proofs.Carrying.{carries_counts, carries_none}
use Rattle.m88_session.specs.declared.monitor.Monitor.{Monitor}
use Rattle.m88_session.specs.declared.script.MonitorCommand.TheVariants.{Drain}
use Rattle.m88_session.proofs.monitor.Monitor.drain.Goals as goal

pub returns-in_err-drain : goal.returns-in_err-drain
returns-in_err-drain g c = carries_none Drain _ _ _ _ _ _ c.from_residual.result (search rules) (λ d s stands.
    let own = c.in_err-drain.ensures.err d s.moment stands.at in
    record { events = own.0; each = own.1; saw = own.2.saw })

pub returns : goal.returns
returns g c =
    let new : Monitor = record { walk = c.drain.new.self; breakpoints = c.args.self.now.breakpoints } in
    carries_counts Drain _ _ c.args.self.now new _ _ c.push_counts.result (omega arith) (λ d s k. refl)
    (λ d s stands.
    let stays = c.drain.ensures.stays in
    let own = c.in_ok-drain.ensures.ok d s.moment stands.at in
    record {
      events = own.0;
      makes = own.1;
      stands = record {
        schedule = ap (λ (x : Bor (List Letter)). x.now) stays.schedule ∙ stands.schedule;
        at = own.2.at;
        taken = c.drain.ensures.taken ∙ stands.taken;
        breakpoints = stands.breakpoints;
      };
      saw = own.2.saw;
    })
    (rw c.board.ensures at c.push_counts.ensures)
