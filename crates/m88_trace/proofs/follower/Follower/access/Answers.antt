-- An access is a store or a load.
use Rattle.m88_mem.specs.DataBus.{bus_of}
use Rattle.m88_trace.proofs.Following.{stores}
use Rattle.m88_trace.proofs.follower.Follower.access.Goals as goal

pub returns-then-access-clause-datum : goal.returns-then-access-clause-datum
returns-then-access-clause-datum c = stores c.args.access.now (bus_of c.args.self.now.memory) c.if-access.true
