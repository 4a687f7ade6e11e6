use Rattle.m88_emul.proofs.ByteBound.{byte_small}
use Rattle.m88_emul.proofs.bytes.byte.Goals as goal

pub returns-clause-bound : goal.returns-clause-bound
returns-clause-bound c = rw (c.datum.ensures.value, c.enable_of.ensures.value) (byte_small c.word.result c.args.place)
