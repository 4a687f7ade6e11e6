-- The word of a frame, and of the image where there is none.
use Rattle.std.proofs.Common.{Some, None, sym, ◌∙◌}
use Rattle.m88_mem.proofs.Seen.{found_word}
use Rattle.m88_mem.proofs.memory.Memory.word.Goals as goal

pub returns-in-Some : goal.returns-in-Some
returns-in-Some c =
    found_word c.args.self.now c.self.inside.image c.self.inside.frames c.self.inside.absent c.self.view_is
    c.self.invariant.entries c.args.addr c.place_of.result (Some c.in-Some.word) c.place_of.ensures (sym c.in-Some.is ∙ c.word.ensures)

pub returns-in-None : goal.returns-in-None
returns-in-None c =
    c.image_word.ensures
    ∙ found_word c.args.self.now c.self.inside.image c.self.inside.frames c.self.inside.absent c.self.view_is
    c.self.invariant.entries c.args.addr c.place_of.result None c.place_of.ensures (sym c.in-None.is ∙ c.word.ensures)
