-- What the loop of `consume_statements` keeps.
use Rattle.std.proofs.Common.{length}
use Rattle.m88_asm.proofs.Resting.{Rest}
use Rattle.m88_asm.proofs.objects.consume_statements.Given as goal

-- what there is, with the statements to come, is what all statements grow to, and so are its faults
abbrev pub invariant-loop-x : goal.invariant-loop-x
invariant-loop-x l = Rest l.fn.line l.fn.statements.items (length l.yielded) l.assembly
