-- A test of a field's range says that the instruction is valid: by the cases of the tests alone.
use Rattle.std.proofs.Common.{arith}
use Rattle.std.proofs.lemmas.Grind.{common_steps}
use Rattle.m88_isa.proofs.instr.is_valid.Goals as goal

pub returns-then-is_width : goal.returns-then-is_width
returns-then-is_width c = grind (arith, common_steps)

pub returns-else-is_width : goal.returns-else-is_width
returns-else-is_width c = grind (arith, common_steps)

pub returns-then-words : goal.returns-then-words
returns-then-words c = grind (arith, common_steps)

pub returns-else-words : goal.returns-else-words
returns-else-words c = grind (arith, common_steps)

pub returns-in-BranchBit : goal.returns-in-BranchBit
returns-in-BranchBit c = grind (arith, common_steps)

pub returns-in-BranchCond : goal.returns-in-BranchCond
returns-in-BranchCond c = grind (arith, common_steps)
