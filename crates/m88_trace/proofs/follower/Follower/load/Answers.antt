-- What is loaded.
use Rattle.std.proofs.Common.{ap, ◌∙◌}
use Rattle.m88_mem.specs.DataBus.{absent_of, bus_of}
use Rattle.m88_trace.proofs.Following.{load_cells, loads}
use Rattle.m88_trace.specs.Inside.Doings.{cells_of}
use Rattle.m88_trace.specs.declared.follower.Follower.{Follower}
use Rattle.m88_trace.proofs.follower.Follower.load.Goals as goal

pub returns-clause-datum : goal.returns-clause-datum
returns-clause-datum c =
    loads c.args.access.now (bus_of c.args.self.now.memory) c.word.result c.datum-datum.result c.requires.read
    c.word.ensures
    c.datum-datum.ensures.value

pub returns-clause-cells : goal.returns-clause-cells
returns-clause-cells c =
    let set = c.set.ensures in
    record {
      cells_are =
          ap (λ (f : Follower). cells_of f) set
          ∙ load_cells c.args.access.now c.args.self.now.regs (bus_of c.args.self.now.memory) c.datum-datum.result
          c.requires.read
          (loads c.args.access.now (bus_of c.args.self.now.memory) c.word.result c.datum-datum.result c.requires.read
          c.word.ensures
          c.datum-datum.ensures.value);
      carry = ap (λ (f : Follower). f.carry) set;
      pc = ap (λ (f : Follower). f.pc) set;
      next = ap (λ (f : Follower). f.next) set;
      image = ap (λ (f : Follower). f.memory.image) set;
      absent = ap (λ (f : Follower). absent_of f.memory) set;
    }
