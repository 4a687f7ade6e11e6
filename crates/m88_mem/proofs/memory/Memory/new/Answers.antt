-- Without a frame each word is the image's.
use Rattle.std.proofs.Common.{◌≡◌, ℕ, is_some, ap, ◌∙◌}
use Rattle.std.proofs.Math.Path.{fun_ext}
use Rattle.m88_base.specs.Pages.{page_number}
use Rattle.m88_mem.proofs.Seen.{seen_bus, seen_ready}
use Rattle.m88_mem.proofs.Words.{bus_by}
use Rattle.m88_mem.specs.DataBus.{absent_of, image_bus}
use Rattle.m88_mem.specs.Inside.Frames.{word_at, word_in}
use Rattle.m88_mem.proofs.memory.Memory.new.Goals as goal

pub returns-clause-bus : goal.returns-clause-bus
unfolding word_in
returns-clause-bus c =
    let bare : (a : ℕ) → bus_by (word_at c.in_ok-frames.frames) (image_bus c.in_ok-image.image) a ≡ image_bus c.args.image.now a =
    λ a. rw (c.in_ok-frames.ensures.none (page_number a)) (ap (λ image. image_bus image a) c.in_ok-image.ensures) in
    seen_bus c.in_ok-image.image c.in_ok-frames.frames c.in_ok-absent.absent c.in_ok-frames.ensures.entries ∙ fun_ext bare

pub returns-clause-ready : goal.returns-clause-ready
returns-clause-ready c = fun_ext (λ p.
    seen_ready c.in_ok-image.image c.in_ok-frames.frames c.in_ok-absent.absent c.in_ok-frames.ensures.entries p
    ∙ ap is_some (c.in_ok-frames.ensures.none p))

pub returns-clause-absent : goal.returns-clause-absent
unfolding absent_of
returns-clause-absent c = fun_ext c.in_ok-absent.ensures

pub invariant_of-result : goal.invariant_of-result
invariant_of-result c = record {
  entries = c.in_ok-frames.ensures.entries;
  lines = c.in_ok-lines.ensures c.in_ok-image.image;
  reads = c.in_ok-reads.ensures c.in_ok-image.image;
}
