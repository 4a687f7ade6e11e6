-- What a context came to is what the moment does for which it stands.
use Rattle.std.specs.Prelude.{true, ◌≡◌, ◌==◌}
use Rattle.std.specs.Int.{bit_at}
use Rattle.std.proofs.Common.{ap, refl}
use Rattle.std.proofs.lemmas.Result.{IfOk-weaker}
use Rattle.m88_ctrl.specs.ControlRegisters.{carry_place}
use Rattle.m88_event.specs.Run.{outcome_at}
use Rattle.m88_event.specs.Timeline.{Moment, Run, is_over}
use Rattle.m88_event.specs.declared.outcome.Outcome.{Outcome}
use Rattle.m88_board.proofs.CameTo.{comes_to}
use Rattle.m88_board.specs.Contexts.{StandsFor}
use Rattle.m88_board.specs.Inside.Books.{outcome_in}
use Rattle.m88_board.specs.declared.context.Context.{Context}
use Rattle.m88_board.proofs.context.Context.outcome.Goals as goal

-- by the book, and by what the registers, the carry and memory hold
abbrev Comes : Context → Outcome → Type 0
Comes c o = o ≡ outcome_in c.book c.saved.regs (bit_at c.saved.epsr carry_place == 1) c.memory

pub returns-clause-events : goal.returns-clause-events
returns-clause-events c =
    IfOk-weaker c.into_outcome.result (Comes c.args.self) (λ (o : Outcome). o.events ≡ c.args.self.book.events)
    (λ o is. ap (λ (x : Outcome). x.events) is) c.into_outcome.ensures

pub returns-clause-moment : goal.returns-clause-moment
returns-clause-moment c =
    IfOk-weaker c.into_outcome.result (Comes c.args.self)
    (λ (o : Outcome). (r : Run) (m : Moment) → StandsFor r m c.args.self
    → is_over r m ≡ true → o ≡ outcome_at r.program m)
    (λ o is r m stands over. comes_to r m c.args.self _ o stands refl is) c.into_outcome.ensures
