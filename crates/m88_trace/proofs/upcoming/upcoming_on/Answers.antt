-- As the parts show it.
use Rattle.std.proofs.Common.{ap, ◌∙◌}
use Rattle.m88_base.specs.declared.slot.Slot.{Slot}
use Rattle.m88_trace.proofs.Nexts.{pc_at}
use Rattle.m88_trace.proofs.upcoming.upcoming_on.Goals as goal

pub returns : goal.returns
returns c = λ r m at. record {
  number = c.issued.ensures.moment r m at;
  place = λ straight.
      ap (λ (s : Slot). s.addr) c.next_slot.ensures.value ∙ pc_at r m c.args.board.now at straight;
}
