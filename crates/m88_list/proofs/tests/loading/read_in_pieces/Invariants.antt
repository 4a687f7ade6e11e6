-- The pieces so far and those that are left are the text.
use Rattle.std.proofs.Common.{◌≡◌, ◌+◌, ◌++◌, List, ℕ, length}
use Rattle.m88_srec.specs.Fed.{IsFed}
use Rattle.m88_list.proofs.tests.loading.read_in_pieces.Given as goal

abbrev pub invariant-loop-rest : goal.invariant-loop-rest
invariant-loop-rest l = record {
  total : l.loader.total + length l.rest ≡ length l.text;
  fed : (before : List ℕ) × (before ++ l.rest ≡ l.text) × IsFed before l.loader;
}

abbrev pub decreases-loop-rest : goal.decreases-loop-rest
decreases-loop-rest l = length l.rest
