-- What is noted is so at the moment.
use Rattle.std.specs.Prelude.{length}
use Rattle.std.proofs.Common.{ap, refl, ◌+◌, ◌∙◌}
use Rattle.m88_base.specs.declared.slot.Slot.{Slot}
use Rattle.m88_isa.specs.Held.{instruction_at}
use Rattle.m88_board.proofs.Laws.{events_at, records_at}
use Rattle.m88_session.proofs.monitor.tracing.noted.Goals as goal

pub returns-clause-before : goal.returns-clause-before
returns-clause-before c = λ r m at.
    let here = ap (λ (s : Slot). s.addr) c.candidate-address.ensures.value ∙ ap (λ (x : Slot). x.addr) (c.iunit.ensures.moment r m at).nip in
    record {
      number = ap (λ n. n + 1) (c.events.ensures.value ∙ events_at r m c.args.board.now at);
      letter_is = refl;
      address = here;
      instruction = c.instruction_at.ensures.value r m at ∙ ap (instruction_at r.program) here;
      fault = ap (λ n. n + 1) (c.from.ensures ∙ c.faults.ensures.value ∙ ap length (records_at r m c.args.board.now at));
    }
