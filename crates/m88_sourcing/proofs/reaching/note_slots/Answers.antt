-- One slot more, and all.
use Rattle.std.proofs.Common.{◌⊎◌, List, ℕ, Contains, IsTrue, subst, take_all}
use Rattle.std.specs.Prelude.{◌↔◌}
use Rattle.std.specs.FinSet.{contains}
use Rattle.m88_sourcing.specs.Code.{HasInstruction}
use Rattle.m88_sourcing.proofs.Outlining.{slot_more}
use Rattle.m88_sourcing.proofs.reaching.note_slots.Goals as goal

pub loop-slot-preserved : goal.loop-slot-preserved
loop-slot-preserved c = record {
  code = λ a.
      slot_more c.args.slots.now c.loop-slot.slot-index a _ _ _ _ c.loop-slot-test.true (c.loop-slot.invariant.code a)
      (c.in_ok-note_slot.ensures.code a);
  named = c.in_ok-note_slot.ensures.named;
}

pub returns-clause-code : goal.returns-clause-code
returns-clause-code c = λ a.
    subst
    (λ (slots : List ℕ). IsTrue (contains c.loop-slot.outline.code a)
    ↔ (IsTrue (contains c.args.outline.now.code a) ⊎ (Contains slots a × HasInstruction c.args.image.now a)))
    (take_all c.loop-slot.slot-index c.args.slots.now c.loop-slot-test.false) (c.loop-slot.invariant.code a)
