-- What holds of every input and of every source.
use Rattle.m88_sourcing.specs.Laws.{SourcingLaws}
use Rattle.m88_sourcing.proofs.Lengthening.{keeps_branches}
use Rattle.m88_sourcing.proofs.Rebuilt.{source_again}
use Rattle.m88_sourcing.proofs.Targeting.{names_targets}
use Rattle.m88_sourcing.proofs.Verdicts.{one_answer, one_verdict_in}

pub sourcing_laws : SourcingLaws
sourcing_laws = record {
  one_verdict = one_verdict_in;
  one_text = one_answer;
  builds = source_again;
  names = names_targets;
  inserts = keeps_branches;
}
