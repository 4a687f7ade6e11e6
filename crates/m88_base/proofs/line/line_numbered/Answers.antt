-- Where nothing is left, no line has the number.
use Rattle.m88_base.proofs.Lines.{none_numbered}
use Rattle.m88_base.proofs.line.line_numbered.Goals as goal

pub returns-then-is_empty : goal.returns-then-is_empty
returns-then-is_empty c = none_numbered c.loop-before.rest.now c.loop-before.before _ c.if-is_empty.ensures c.loop-before.invariant

pub returns-then-is_empty-2 : goal.returns-then-is_empty-2
returns-then-is_empty-2 c = none_numbered c.loop-before.rest.now c.loop-before.before _ c.if-is_empty-2.ensures c.loop-before.invariant
