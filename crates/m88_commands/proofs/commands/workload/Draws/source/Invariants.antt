-- The statements so far are in the source, and their draws were made.
use Rattle.std.proofs.Common.{◌≡◌, ◌*◌}
use Rattle.m88_commands.specs.Answer.Workload.{seed_after, workload_source}
use Rattle.m88_commands.proofs.commands.workload.Draws.source.Given as goal

abbrev pub invariant-loop : goal.invariant-loop
invariant-loop l = record {
  seed : l.self.seed ≡ seed_after l.fn.self.seed (4 * l.counter);
  so_far : l.source.items ≡ workload_source l.fn.self.seed l.counter;
}
