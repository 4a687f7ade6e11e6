-- The registers so far are taken in.
use Rattle.std.proofs.Common.{◌≡◌, take}
use Rattle.m88_commands.specs.Answer.Workload.{xor_of}
use Rattle.m88_commands.proofs.commands.summary.xor_of.Given as goal

abbrev pub invariant-loop-register : goal.invariant-loop-register
invariant-loop-register l = l.all ≡ xor_of (take l.register-index l.registers)
