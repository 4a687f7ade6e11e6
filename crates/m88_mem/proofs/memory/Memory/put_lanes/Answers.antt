-- The word changes in the frame of its page.
use Rattle.std.proofs.Common.{◌≡◌, ap, arith, sym, ◌∙◌}
use Rattle.std.proofs.Math.Path.{fun_ext}
use Rattle.m88_base.specs.Pages.{page_number}
use Rattle.m88_isa.specs.Bus.{with_word}
use Rattle.m88_isa.specs.Lanes.{merged}
use Rattle.m88_mem.proofs.Seen.{seen_bus, seen_ready}
use Rattle.m88_mem.proofs.Words.{bus_by, put_word}
use Rattle.m88_mem.specs.DataBus.{MemoryView, bus_of, image_bus, ready_of}
use Rattle.m88_mem.specs.Inside.Frames.{word_at}
use Rattle.m88_mem.proofs.memory.Memory.put_lanes.Goals as goal

pub put-requires : goal.put-requires
put-requires c = record {
  is_page = omega arith;
  within = omega (arith, c.place_of.ensures);
  ready = sym (seen_ready c.self.inside.image c.self.inside.frames c.self.inside.absent c.self.invariant.entries
      (page_number c.args.addr))
      ∙ ap (λ (m : MemoryView). ready_of m (page_number c.args.addr)) c.self.view_is
      ∙ c.requires.ready;
  enable = c.requires.enable;
}

pub returns-clause-bus : goal.returns-clause-bus
returns-clause-bus c =
    let bus : bus_of c.args.self.now ≡ bus_by (word_at c.self.inside.frames) (image_bus c.self.inside.image) =
    ap bus_of (sym c.self.view_is)
    ∙ seen_bus c.self.inside.image c.self.inside.frames c.self.inside.absent c.self.invariant.entries in
    seen_bus c.self.inside.image c.put.new.self c.self.inside.absent (c.put.ensures.entries ∙ c.self.invariant.entries)
    ∙ fun_ext (put_word (word_at c.self.inside.frames) (word_at c.put.new.self) (image_bus c.self.inside.image) c.args.addr
    (merged c.args.en c.args.value (bus_by (word_at c.self.inside.frames) (image_bus c.self.inside.image) c.args.addr))
    c.requires.word (λ p k. rw (← c.place_of.ensures)
    (c.put.ensures.word (image_bus c.self.inside.image c.args.addr) p k)))
    ∙ ap (λ seen. with_word seen c.args.addr (merged c.args.en c.args.value (seen c.args.addr))) (sym bus)

pub returns-clause-ready : goal.returns-clause-ready
returns-clause-ready c = fun_ext (λ p.
    seen_ready c.self.inside.image c.put.new.self c.self.inside.absent (c.put.ensures.entries ∙ c.self.invariant.entries) p
    ∙ c.put.ensures.ready p
    ∙ sym (seen_ready c.self.inside.image c.self.inside.frames c.self.inside.absent c.self.invariant.entries p)
    ∙ ap (λ (m : MemoryView). ready_of m p) c.self.view_is)
