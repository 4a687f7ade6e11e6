-- What the letter `r` makes the board do is seen from outside.
use Rattle.std.proofs.Common.{rules}
use Rattle.m88_board.proofs.Handing.{fault_seen}
use Rattle.m88_board.proofs.board.Board.meets_fault.Goals as goal

pub returns-in-Some-clause-value : goal.returns-in-Some-clause-value
returns-in-Some-clause-value c = search rules

pub returns-in-None-clause-value : goal.returns-in-None-clause-value
returns-in-None-clause-value c = search rules

pub returns-in-Some-clause-choice : goal.returns-in-Some-clause-choice
returns-in-Some-clause-choice c = λ p. fault_seen p c.args.self.now c.is_absent.result (returns-in-Some-clause-value c)

pub returns-in-None-clause-choice : goal.returns-in-None-clause-choice
returns-in-None-clause-choice c = λ p. fault_seen p c.args.self.now _ (returns-in-None-clause-value c)
