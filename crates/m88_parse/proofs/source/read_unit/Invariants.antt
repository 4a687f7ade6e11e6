-- The draft, with the rows of the lines that are left, leads to the unit of the source.
use Rattle.std.proofs.Common.{◌≡◌, ◌+◌, ◌≤◌, length}
use Rattle.m88_base.specs.Lines.{lines_of}
use Rattle.m88_parse.specs.Inside.Source.{rows_of, unit_of}
use Rattle.m88_parse.specs.Inside.Drafts.{leads}
use Rattle.m88_parse.proofs.source.read_unit.Given as goal

abbrev pub invariant-loop-rest : goal.invariant-loop-rest
invariant-loop-rest l = record {
  leads : leads l.draft (rows_of l.number (lines_of l.rest)) ≡ unit_of l.source;
  place : l.number + length l.rest ≤ 1 + length l.source;
  from_one : 1 ≤ l.number;
}

abbrev pub decreases-loop-rest : goal.decreases-loop-rest
decreases-loop-rest l = length l.rest
