-- What a run came to that is stopped is what is seen of its parts, with this end.
use Rattle.std.specs.Prelude.{Some, ◌≡◌}
use Rattle.std.proofs.lemmas.Result.{IfOk-weaker}
use Rattle.m88_event.specs.Run.{outcome_by}
use Rattle.m88_event.specs.declared.outcome.Outcome.{Outcome}
use Rattle.m88_mem.specs.DataBus.{image_bus}
use Rattle.m88_board.proofs.Beginning.{came_to_parts}
use Rattle.m88_board.specs.Inside.Books.{outcome_in}
use Rattle.m88_board.specs.Parts.{seen_of_parts}
use Rattle.m88_board.proofs.parts.Parts.outcome.Goals as goal

pub returns : goal.returns
returns c =
    let parts = c.args.self in
    let kept = c.into_book-memory.result in
    IfOk-weaker c.into_outcome.result (λ (o : Outcome). o ≡ outcome_in kept.1 parts.regs parts.carry kept.0)
    (λ (o : Outcome). o ≡ outcome_by (image_bus parts.memory.image) (record (seen_of_parts parts) { ended = Some c.args.end }))
    (λ o is. came_to_parts parts c.args.end kept o c.into_book-memory.ensures is)
    c.into_outcome.ensures
