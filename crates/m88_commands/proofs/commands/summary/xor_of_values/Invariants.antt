-- The words so far are taken in.
use Rattle.std.proofs.Common.{◌≡◌, map, take}
use Rattle.m88_commands.specs.Answer.Workload.{xor_of}
use Rattle.m88_commands.proofs.commands.summary.xor_of_values.Given as goal

abbrev pub invariant-loop-word : goal.invariant-loop-word
invariant-loop-word l = l.all ≡ xor_of (map (λ w. w.1) (take l.word-index l.words))
