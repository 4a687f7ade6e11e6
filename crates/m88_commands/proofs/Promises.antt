-- The laws of commands.
use Rattle.m88_session.proofs.Laws.{one_script_verdict}
use Rattle.m88_commands.specs.Laws.{CommandLaws}
use Rattle.m88_commands.proofs.BridgeLinks.{assembled_links_alike}
use Rattle.m88_commands.proofs.BridgeListings.{listed_builds_alike}
use Rattle.m88_commands.proofs.BridgeRuns.{built_runs_alike}
use Rattle.m88_commands.proofs.BridgeTraces.{traced_is_checked}
use Rattle.m88_commands.proofs.OneSource.{one_verdict}
use Rattle.m88_commands.proofs.OneText.{one_text}
use Rattle.m88_commands.proofs.WorkloadSources.{workload_accepted}

pub command_laws : CommandLaws
command_laws = record {
  one_verdict = one_verdict;
  one_text = one_text;
  one_script = one_script_verdict;
  bridge = built_runs_alike;
  relinked = assembled_links_alike;
  relisted = listed_builds_alike;
  traced = traced_is_checked;
  workloads = workload_accepted;
}
