-- Without its lowest bit the word names the same registers.
use Rattle.std.proofs.Common.{sym}
use Rattle.m88_scoreboard.specs.Registers.{waiting_of}
use Rattle.m88_scoreboard.proofs.Waits.{named_without_lowest}
use Rattle.m88_scoreboard.proofs.reg_file.RegFile.restore.Goals as goal

pub returns-clause-waiting : goal.returns-clause-waiting
unfolding waiting_of
returns-clause-waiting c = sym (named_without_lowest c.args.bits)
