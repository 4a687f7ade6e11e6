-- The word of a frame, and of the image where there is none, as it is kept.
use Rattle.std.proofs.Common.{Some, None, ap, sym, ◌∙◌}
use Rattle.m88_mem.proofs.Seen.{found_word}
use Rattle.m88_mem.specs.DataBus.{MemoryView, image_bus}
use Rattle.m88_mem.proofs.memory.Memory.load.Goals as goal

pub returns-in-Some-clause-value : goal.returns-in-Some-clause-value
returns-in-Some-clause-value c =
    found_word c.args.self.now c.self.inside.image c.self.inside.frames c.self.inside.absent c.self.view_is
    c.self.invariant.entries c.args.addr c.place_of.result (Some c.in-Some.word) c.place_of.ensures (sym c.in-Some.is ∙ c.word.ensures)

pub returns-in-None-clause-value : goal.returns-in-None-clause-value
returns-in-None-clause-value c =
    c.read_image.ensures.value ∙ ap (λ (m : MemoryView). image_bus m.image c.args.addr) (sym c.self.view_is)
    ∙ found_word c.args.self.now c.self.inside.image c.self.inside.frames c.self.inside.absent c.self.view_is
    c.self.invariant.entries c.args.addr c.place_of.result None c.place_of.ensures (sym c.in-None.is ∙ c.word.ensures)
