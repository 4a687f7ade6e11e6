-- No accepted record has r0 in SSBR.
use Rattle.m88_serving.proofs.Making.{ssbr_clear}
use Rattle.m88_serving.proofs.entering.control_left.Goals as goal

pub enter-requires-clause-ssbr : goal.enter-requires-clause-ssbr
enter-requires-clause-ssbr c = ssbr_clear c.args.fault.now c.requires
