-- What is left of the input has the line behind so many of its lines.
use Rattle.std.proofs.Common.{◌≡◌, slice_get}
use Rattle.m88_base.specs.Lines.{line_numbered, lines_of}
use Rattle.m88_base.proofs.line.line_numbered.Given as goal

abbrev pub invariant-loop-before : goal.invariant-loop-before
invariant-loop-before l = slice_get (lines_of l.rest) l.before ≡ line_numbered l.input l.number

abbrev pub decreases-loop-before : goal.decreases-loop-before
decreases-loop-before l = l.before
