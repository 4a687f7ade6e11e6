-- The oldest transaction is answered or finished with all others.
use Rattle.std.proofs.Common.{◌≡◌, ◌∙◌, sym, subst, Some, true}
use Rattle.std.specs.Prelude.{slice_get}
use Rattle.m88_base.specs.Pages.{page_number}
use Rattle.m88_mem.specs.DataBus.{absent_of}
use Rattle.m88_board.specs.Board.{BoardView}
use Rattle.m88_board.proofs.Brought.{idle_brings}
use Rattle.m88_board.specs.contracts.board.Board.{the_view}
use Rattle.m88_board.proofs.Choosing.{answer_is}
use Rattle.m88_board.proofs.board.Board.answer_oldest.Goals as goal

pub fault-requires : goal.fault-requires
fault-requires c =
    let b = c.args.self.now in
    let oldest = subst (λ (b : BoardView). Some c.in-Some.oldest ≡ slice_get b.pending 0) c.self.view_is (sym c.in-Some.is ∙ c.oldest.ensures.value) in
    let absent = subst (λ (b : BoardView). c.is_absent.result ≡ absent_of b.memory (page_number c.in-Some.oldest.addr)) c.self.view_is c.is_absent.ensures in
    answer_is b.pending c.in-Some.oldest (absent_of b.memory) true oldest (sym absent ∙ c.if-is_absent.true)

pub returns-in_default : goal.returns-in_default
returns-in_default c =
    rw (← c.self.view_is) (idle_brings (the_view c.self.inside) (sym c.oldest.ensures.value ∙ c.in_default.is))
