-- The words of the new frame are those that the image has.
use Rattle.std.proofs.Common.{◌≡◌, ℕ, Some, false, is_some, ap, sym, ◌∙◌}
use Rattle.std.proofs.Math.Path.{fun_ext}
use Rattle.m88_base.specs.Pages.{page_number}
use Rattle.m88_mem.proofs.Levels.{over_same}
use Rattle.m88_mem.proofs.Seen.{now_ready, seen_bus, seen_ready}
use Rattle.m88_mem.proofs.Words.{bus_by, framed_word}
use Rattle.m88_mem.specs.DataBus.{MemoryView, absent_of, bus_of, image_bus, ready_of}
use Rattle.m88_mem.specs.Inside.Frames.{frame_at, with_frame, word_at}
use Rattle.m88_mem.proofs.memory.Memory.make_ready.Goals as goal

pub returns : goal.returns
unfolding absent_of
returns c =
    let none : is_some (frame_at c.self.inside.frames (page_number c.args.addr)) ≡ false =
    sym (seen_ready c.self.inside.image c.self.inside.frames c.self.inside.absent c.self.invariant.entries
    (page_number c.args.addr))
    ∙ ap (λ (m : MemoryView). ready_of m (page_number c.args.addr)) c.self.view_is ∙ c.requires in
    let bus : bus_of c.args.self.now ≡ bus_by (word_at c.self.inside.frames) (image_bus c.self.inside.image) =
    ap bus_of (sym c.self.view_is)
    ∙ seen_bus c.self.inside.image c.self.inside.frames c.self.inside.absent c.self.invariant.entries in
    let frames : (p : ℕ) → frame_at c.set_frame.new.self p
    ≡ with_frame (page_number c.args.addr) (Some c.in_ok-frame.frame) (frame_at c.self.inside.frames) p =
    over_same c.self.inside.frames c.give_table.new.self c.set_frame.new.self (page_number c.args.addr) c.in_ok-frame.frame
    c.give_table.ensures.same c.set_frame.ensures.frames in
    record {
      image = ap (λ (m : MemoryView). m.image) c.self.view_is;
      bus = seen_bus c.self.inside.image c.set_frame.new.self c.self.inside.absent
          (c.set_frame.ensures.entries ∙ c.give_table.ensures.entries ∙ c.self.invariant.entries)
          ∙ fun_ext (framed_word c.self.inside.image (frame_at c.self.inside.frames) (frame_at c.set_frame.new.self)
          (page_number c.args.addr) c.in_ok-frame.frame none frames c.in_ok-frame.ensures.each)
          ∙ sym bus;
      absent = ap absent_of c.self.view_is;
      ready = fun_ext (λ p.
          seen_ready c.self.inside.image c.set_frame.new.self c.self.inside.absent
          (c.set_frame.ensures.entries ∙ c.give_table.ensures.entries ∙ c.self.invariant.entries) p
          ∙ ap is_some (frames p)
          ∙ now_ready (frame_at c.self.inside.frames) (page_number c.args.addr) c.in_ok-frame.frame (ready_of c.args.self.now)
          (λ q. ap (λ (m : MemoryView). ready_of m q) (sym c.self.view_is)
          ∙ seen_ready c.self.inside.image c.self.inside.frames c.self.inside.absent c.self.invariant.entries q) p);
      unchanged = tt;
    }
