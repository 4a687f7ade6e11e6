-- Nothing leads to the start.
use Rattle.std.proofs.Common.{[], sym, subst}
use Rattle.m88_srec.specs.Begun.{LeadsTo}
use Rattle.m88_srec.proofs.Feeding.{opened}
use Rattle.m88_srec.proofs.loader.Loader.new.Goals as goal

pub returns-clause-fed : goal.returns-clause-fed
returns-clause-fed c = subst (LeadsTo []) (sym c.new.ensures.begun) opened
