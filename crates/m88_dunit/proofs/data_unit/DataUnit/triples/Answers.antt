-- The words of the pending accesses tell them.
use Rattle.std.proofs.Common.{◌∙◌, ap}
use Rattle.m88_isa.specs.Triples.{accesses_in}
use Rattle.m88_dunit.proofs.Told.{told_all}
use Rattle.m88_dunit.proofs.data_unit.DataUnit.triples.Goals as goal

pub returns-clause-value : goal.returns-clause-value
returns-clause-value c = cc

pub returns-clause-told : goal.returns-clause-told
returns-clause-told c = ap accesses_in (returns-clause-value c) ∙ told_all c.args.self.now c.words.ensures.pending
