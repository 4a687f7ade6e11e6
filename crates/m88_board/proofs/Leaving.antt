-- The control registers that an event leaves.
use Rattle.std.specs.Prelude.{ℕ, ◌≡◌}
use Rattle.std.proofs.Common.{ap, subst, sym, ◌∙◌}
use Rattle.m88_ctrl.specs.ControlRegisters.{ControlRegisters}
use Rattle.m88_event.specs.declared.happened.Happened.{Happened}
use Rattle.m88_event.specs.declared.happened.Happened.TheVariants.{Issued, Bubble, Stalled, Answered, Faulted, Idle, Served, Ended, Evicted}
use Rattle.m88_board.specs.Board.{BoardView, event_counted}
use Rattle.m88_board.specs.Shown.{Leaves}

-- the count of events is no register
same_left : (old : BoardView) (h : Happened) (new : BoardView) → Leaves h old new →
    Leaves h old (event_counted new)
same_left old Issued new left = left
same_left old _ new left = left

pub leaves_counted : (old : BoardView) (h : Happened) (middle new : BoardView) →
    new ≡ event_counted middle →
    Leaves h old middle →
    Leaves h old new
leaves_counted old h middle new is left =
    subst (λ (b : BoardView). Leaves h old b) (sym is) (same_left old h middle left)

-- only PSR was written
pub psr_alone : (old new : ControlRegisters) (psr : ℕ) → new ≡ record old { psr = psr } → new ≡ record old { psr = new.psr }
psr_alone old new psr is =
    is ∙ ap (λ (n : ℕ). record old { psr = n }) (sym (ap (λ (c : ControlRegisters). c.psr) is))
