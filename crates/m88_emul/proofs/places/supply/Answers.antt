use Rattle.std.proofs.Common.{arith, ap, ◌∙◌}
use Rattle.std.specs.Prelude.{false, ◌-◌}
use Rattle.m88_base.specs.Pages.{page_number}
use Rattle.m88_isa.specs.Address.{after_bytes}
use Rattle.m88_mem.specs.DataBus.{absent_of}
use Rattle.m88_mem.specs.Marks.{with_page}
use Rattle.m88_emul.proofs.PageEnds.{both_supplied}
use Rattle.m88_emul.proofs.places.supply.Goals as goal

pub returns : goal.returns
returns c =
    let some = c.requires.0 in
    let few = c.requires.1 in
    let first = c.supply.ensures in
    let second = c.supply-2.ensures in
    record {
      absent =
          second.absent
          ∙ ap (with_page (page_number (after_bytes c.args.place (c.args.count - 1))) false) first.absent
          ∙ both_supplied c.args.place c.args.count (absent_of c.args.memory.now) (omega arith) some few;
      image = second.image ∙ first.image;
      bus = second.bus ∙ first.bus;
      ready = second.ready ∙ first.ready;
    }
