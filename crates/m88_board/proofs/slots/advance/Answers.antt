-- The slots behind the instruction that goes into execution.
use Rattle.m88_board.proofs.Advancing.{agree_advanced}
use Rattle.m88_board.proofs.slots.advance.Goals as goal

pub returns-clause-slots : goal.returns-clause-slots
returns-clause-slots c =
    agree_advanced c.args.memory.now.image c.args.iunit.now c.advance.new.self c.args.after.0 c.args.after.1
    c.lacks_next-next_e.result c.lacks_further-behind_e.result c.args.bubble c.requires.valid c.requires.fetched c.lacks_next-next_e.ensures
    c.lacks_further-behind_e.ensures c.advance.ensures.straight c.advance.ensures.bubble
