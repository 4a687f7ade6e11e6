-- What a letter makes the board do, by the letter.
use Rattle.std.proofs.Common.{sym, subst}
use Rattle.m88_event.specs.declared.letter.Letter.{Letter}
use Rattle.std.specs.Prelude.{Ok}
use Rattle.m88_board.specs.Inside.Events.{BringsOrStays}
use Rattle.m88_board.proofs.board.Board.take.Goals as goal

pub returns-in-Issue-clause-brings : goal.returns-in-Issue-clause-brings
returns-in-Issue-clause-brings c =
    subst (λ (letter : Letter). BringsOrStays letter c.args.self.now c.issue.result c.issue.new.self) (sym c.in-Issue.is)
    c.issue.ensures.brings

pub returns-in-Answer-clause-brings : goal.returns-in-Answer-clause-brings
returns-in-Answer-clause-brings c =
    subst (λ (letter : Letter). BringsOrStays letter c.args.self.now c.answer.result c.answer.new.self) (sym c.in-Answer.is)
    c.answer.ensures

pub returns-in-Evict-clause-brings : goal.returns-in-Evict-clause-brings
returns-in-Evict-clause-brings c =
    subst (λ (letter : Letter). BringsOrStays letter c.args.self.now (Ok c.evict.result) c.evict.new.self) (sym c.in-Evict.is)
    c.evict.ensures.brings

pub returns-in-Issue-clause-made : goal.returns-in-Issue-clause-made
returns-in-Issue-clause-made c = c.issue.ensures.tells.changes.made
