-- What a run came to is what is seen of the board, and that of the moment.
use Rattle.std.specs.Prelude.{ℕ, Bool, true, List, [], ◌≡◌, ◌↔◌}
use Rattle.std.proofs.Common.{ap, ◌∙◌}
use Rattle.std.proofs.lemmas.Result.{IfOk-weaker}
use Rattle.m88_event.specs.Run.{outcome_at, outcome_by}
use Rattle.m88_event.specs.Timeline.{Moment, Run, is_over}
use Rattle.m88_event.specs.declared.happened.End.TheVariants.{Limit}
use Rattle.m88_event.specs.declared.outcome.Outcome.{Outcome}
use Rattle.m88_mem.specs.DataBus.{MemoryView, image_bus}
use Rattle.m88_board.proofs.Ending.{came_to, came_to_at, limited, none_left}
use Rattle.m88_board.specs.Board.{BoardView, local_of}
use Rattle.m88_board.specs.Inside.Books.{outcome_in}
use Rattle.m88_board.specs.Moves.{IsAt}
use Rattle.m88_board.specs.contracts.board.Board.{the_view}
use Rattle.m88_board.specs.declared.book.Book.{Book}
use Rattle.m88_board.proofs.board.Board.outcome.Goals as goal

-- by the book, and by what the registers, the carry and memory hold
abbrev Comes : Book → List ℕ → Bool → MemoryView → Outcome → Type 0
Comes book regs carry memory o = o ≡ outcome_in book regs carry memory

pub returns-clause-events : goal.returns-clause-events
returns-clause-events c =
    IfOk-weaker c.into_outcome.result (Comes c.self.inside.book c.values-regs.result c.carry.result c.self.inside.memory) (λ (o : Outcome). o.events ≡ c.args.self.events)
    (λ o is. ap (λ (x : Outcome). x.events) is ∙ ap (λ (b : BoardView). b.events) c.self.view_is) c.into_outcome.ensures

pub returns-clause-value : goal.returns-clause-value
returns-clause-value c =
    IfOk-weaker c.into_outcome.result (Comes c.self.inside.book c.values-regs.result c.carry.result c.self.inside.memory)
    (λ (o : Outcome). c.args.self.pending ≡ []
    → o ≡ outcome_by (image_bus c.args.self.memory.image) (local_of c.args.self))
    (λ o is none.
    let empty = rw (← c.self.view_is) at none in
    rw (← c.self.view_is)
    (came_to (the_view c.self.inside) c.values-regs.result c.carry.result o c.self.invariant empty
    c.values-regs.ensures.whole c.carry.ensures is))
    c.into_outcome.ensures

pub returns-clause-moment : goal.returns-clause-moment
returns-clause-moment c =
    IfOk-weaker c.into_outcome.result (Comes c.self.inside.book c.values-regs.result c.carry.result c.self.inside.memory)
    (λ (o : Outcome). (r : Run) (m : Moment) → IsAt r m c.args.self
    → is_over r m ≡ true → o ≡ outcome_at r.program m)
    (λ o is r m at over.
    let stands = rw (← c.self.view_is) at at in
    came_to_at r m (the_view c.self.inside) stands o
    (came_to (the_view c.self.inside) c.values-regs.result c.carry.result o c.self.invariant
    (none_left r m (the_view c.self.inside) stands over) c.values-regs.ensures.whole c.carry.ensures is))
    c.into_outcome.ensures

pub returns-clause-limit_end : goal.returns-clause-limit_end
returns-clause-limit_end c =
    IfOk-weaker c.into_outcome.result (Comes c.self.inside.book c.values-regs.result c.carry.result c.self.inside.memory)
    (λ (o : Outcome). (r : Run) (m : Moment) → IsAt r m c.args.self
    → is_over r m ≡ true → (o.end ≡ Limit) ↔ (o.retired ≡ c.args.self.limit))
    (λ o is r m at over.
    let stands = rw (← c.self.view_is) at at in
    rw (← c.self.view_is)
    (limited r m (the_view c.self.inside) c.values-regs.result c.carry.result o c.self.invariant stands over is))
    c.into_outcome.ensures
