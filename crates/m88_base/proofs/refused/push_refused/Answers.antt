use Rattle.std.proofs.Common.{arith}
use Rattle.std.proofs.lemmas.Grind.{common_steps}
use Rattle.m88_base.proofs.refused.push_refused.Goals as goal

pub returns : goal.returns
returns c = grind (arith, common_steps)
