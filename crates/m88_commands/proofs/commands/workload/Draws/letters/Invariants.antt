-- The letters so far are there, and their draws were made.
use Rattle.std.proofs.Common.{◌≡◌}
use Rattle.std.specs.Prelude.{map, string_bytes}
use Rattle.m88_event.specs.Letters.{letter_byte}
use Rattle.m88_commands.specs.Answer.Workload.{drawn_letters, seed_after}
use Rattle.m88_commands.proofs.commands.workload.Draws.letters.Given as goal

abbrev pub invariant-loop : goal.invariant-loop
invariant-loop l = record {
  seed : l.self.seed ≡ seed_after l.fn.self.seed l.counter;
  so_far : string_bytes l.letters ≡ map letter_byte (drawn_letters l.fn.self.seed 0 l.counter);
}
