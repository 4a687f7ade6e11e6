-- What the run of a context came to that is over.
use Rattle.std.specs.Prelude.{Bool, Option, ◌≡◌, ◌==◌, unwrap_or}
use Rattle.std.specs.Int.{bit_at}
use Rattle.std.proofs.Common.{ap, ap₂, ◌∙◌}
use Rattle.m88_ctrl.specs.ControlRegisters.{carry_place}
use Rattle.m88_event.proofs.Laws.{drained_bus}
use Rattle.m88_event.specs.Run.{outcome_at}
use Rattle.m88_event.specs.Timeline.{Moment, Run}
use Rattle.m88_event.specs.declared.happened.End.{End}
use Rattle.m88_event.specs.declared.happened.End.TheVariants.{Limit}
use Rattle.m88_event.specs.declared.outcome.Outcome.{Outcome}
use Rattle.m88_isa.proofs.Laws.{program_of_image}
use Rattle.m88_isa.specs.Bus.{changed_words}
use Rattle.m88_isa.specs.Machine.{opening, state}
use Rattle.m88_board.proofs.ReadBack.{carry_back}
use Rattle.m88_board.proofs.Starting.{same_bytes}
use Rattle.m88_board.specs.Contexts.{StandsFor}
use Rattle.m88_board.specs.Inside.Books.{outcome_in}
use Rattle.m88_board.specs.declared.context.Context.{Context}

pub comes_to : (r : Run) (m : Moment) (c : Context) (carry : Bool) (o : Outcome) →
    StandsFor r m c →
    carry ≡ (bit_at c.saved.epsr carry_place == 1) →
    o ≡ outcome_in c.book c.saved.regs carry c.memory →
    o ≡ outcome_at r.program m
unfolding outcome_at opening
comes_to r m c carry o stands carries comes =
    let s = state r.program m.retired in
    let ends_so = ap (λ (e : Option End). unwrap_or e Limit) stands.book.ended in
    let carry_is = carries ∙ ap (λ w. bit_at w carry_place == 1) stands.saved.epsr ∙ carry_back s.carry s.mxm in
    let program = program_of_image c.memory.image r.program stands.is_image stands.image in
    let words = stands.words ∙ drained_bus r.program m.retired m.done program stands.drained in
    let changed_is = ap₂ changed_words (same_bytes r.program c.memory.image stands.image) words in
    comes ∙ (λ i. record {
      end = ends_so i;
      retired = stands.book.retired i;
      regs = stands.saved.regs i;
      carry = carry_is i;
      out = stands.book.out i;
      changed = changed_is i;
      events = stands.book.events i;
      answers = stands.book.answers i;
      records = stands.book.records i;
    })
