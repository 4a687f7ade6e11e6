-- A word of which no byte is there is 0.
use Rattle.std.proofs.Common.{sym}
use Rattle.m88_mem.proofs.Words.{free_word}
use Rattle.m88_mem.proofs.places.image_word.Goals as goal

pub returns-in-None : goal.returns-in-None
returns-in-None c = sym (free_word c.args.image.now c.args.addr c.requires c.in-None.ensures.free)
