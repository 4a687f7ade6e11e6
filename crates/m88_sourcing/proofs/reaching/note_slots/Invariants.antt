-- The words of the slots so far were noted.
use Rattle.std.proofs.Common.{◌⊎◌, ℕ, Contains, IsTrue, take}
use Rattle.std.specs.Prelude.{◌↔◌}
use Rattle.std.specs.FinSet.{contains}
use Rattle.m88_sourcing.specs.Code.{HasInstruction}
use Rattle.m88_sourcing.specs.Inside.Walks.{NamesTargets}
use Rattle.m88_sourcing.proofs.reaching.note_slots.Given as goal

abbrev pub invariant-loop-slot : goal.invariant-loop-slot
invariant-loop-slot l = record {
  code : (a : ℕ) → IsTrue (contains l.outline.code a)
      ↔ (IsTrue (contains l.fn.outline.code a) ⊎ (Contains (take l.slot-index l.slots) a × HasInstruction l.image a));
  named : NamesTargets l.image l.outline;
}
