-- The word that is kept is the image's.
use Rattle.std.proofs.Common.{ap, ◌∙◌}
use Rattle.m88_mem.specs.DataBus.{MemoryView, image_bus}
use Rattle.m88_mem.proofs.memory.Memory.read_image.Goals as goal

pub returns-in-Some-clause-value : goal.returns-in-Some-clause-value
returns-in-Some-clause-value c =
    c.in-Some.ensures c.self.inside.image c.self.invariant.reads
    ∙ ap (λ (m : MemoryView). image_bus m.image c.args.addr) c.self.view_is

pub invariant_of-self : goal.invariant_of-self
invariant_of-self c = record {
  entries = c.self.invariant.entries;
  lines = c.self.invariant.lines;
  reads = c.keep.ensures c.self.inside.image c.image_word-word.ensures c.self.invariant.reads;
}
