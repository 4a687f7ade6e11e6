-- The shift of the signed word is that of the definition, whose bits are read back.
use Rattle.std.proofs.Common.{arith}
use Rattle.std.proofs.lemmas.Grind.{common_steps}
use Rattle.m88_isa.proofs.fields.extract_signed.Goals as goal

pub returns-then-offset-width-ge32 : goal.returns-then-offset-width-ge32
returns-then-offset-width-ge32 c = grind (arith, common_steps)
