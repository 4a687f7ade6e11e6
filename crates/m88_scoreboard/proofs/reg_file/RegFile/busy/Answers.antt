-- The word of the registers that wait is that of their set, and names it.
use Rattle.m88_scoreboard.specs.Registers.{waiting_of}
use Rattle.m88_scoreboard.proofs.Waits.{named_in, word_of_named}
use Rattle.m88_scoreboard.proofs.reg_file.RegFile.busy.Goals as goal

pub returns-clause-value : goal.returns-clause-value
unfolding waiting_of
returns-clause-value c = rw (← c.self.view_is) (word_of_named c.self.inside.waits c.self.invariant.waits)

pub returns-clause-back : goal.returns-clause-back
unfolding waiting_of
returns-clause-back c = rw (← c.self.view_is) (named_in c.self.inside.waits c.self.invariant.zero_ready)
