-- The words of one access more stand for it.
use Rattle.m88_dunit.proofs.Stages.{staged_with, stages_with}
use Rattle.m88_dunit.proofs.data_unit.DataUnit.put.Goals as goal

pub invariant_of-self : goal.invariant_of-self
invariant_of-self c =
    rw (c.push.ensures.items, c.triple_of-words.ensures.value)
    (stages_with c.self.inside.stages.items c.args.access.now c.self.invariant c.requires.made (rw c.self.view_is c.requires.room))

pub returns : goal.returns
returns c =
    rw (c.push.ensures.items, c.triple_of-words.ensures.value, ← c.self.view_is)
    (staged_with c.self.inside.stages.items c.args.access.now c.requires.made)
