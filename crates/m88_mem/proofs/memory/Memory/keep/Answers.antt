-- All else stays.
use Rattle.m88_mem.proofs.memory.Memory.keep.Goals as goal

pub invariant_of-self : goal.invariant_of-self
invariant_of-self c = record {
  entries = c.self.invariant.entries;
  lines = c.keep.ensures c.self.inside.image c.line_of-line.ensures.1 c.self.invariant.lines;
  reads = c.self.invariant.reads;
}
