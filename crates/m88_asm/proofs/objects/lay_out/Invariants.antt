-- What the loop of `lay_out` keeps.
use Rattle.m88_asm.proofs.Resting.{Rest}
use Rattle.m88_asm.proofs.objects.lay_out.Given as goal

-- what there is, with the statements to come, is what all statements grow to, and so are its faults
abbrev pub invariant-loop-x : goal.invariant-loop-x
invariant-loop-x l = Rest l.fn.line l.statements l.x-index l.assembly
