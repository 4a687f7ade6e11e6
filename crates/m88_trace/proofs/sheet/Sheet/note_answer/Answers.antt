-- The data of what was answered.
use Rattle.std.proofs.Common.{sym, ◌∙◌}
use Rattle.m88_event.specs.Timeline.{after_letter}
use Rattle.m88_event.specs.declared.letter.Letter.TheVariants.{Answer}
use Rattle.m88_isa.specs.History.{bus_at, pending_at}
use Rattle.m88_trace.proofs.Data.{and_others}
use Rattle.m88_trace.proofs.Noting.{answer_quiet, answered_note, fault_chosen, faulted_note, traced_same}
use Rattle.m88_trace.proofs.sheet.Sheet.note_answer.Goals as goal

pub returns-in-Answered-clause-traced : goal.returns-in-Answered-clause-traced
returns-in-Answered-clause-traced c = λ r m past made are says traced.
    answered_note r m c.args.self.now c.fill.new.self traced c.args.due.oldest _
    (sym c.in-Answered.is ∙ says)
    (and_others c.args.due.oldest (pending_at r.program m.retired m.done) (bus_at r.program m.retired m.done) are.oldest)
    c.fill.ensures

pub returns-in-Faulted-clause-traced : goal.returns-in-Faulted-clause-traced
returns-in-Faulted-clause-traced c = λ r m past made are says traced.
    faulted_note r m c.args.self.now c.fill_all.new.self traced c.in-Faulted.field-0 c.args.due past made
    (sym c.in-Faulted.is ∙ says)
    (are.all (fault_chosen r m c.in-Faulted.field-0 (sym c.in-Faulted.is ∙ says)))
    c.fill_all.ensures

pub returns-in_default-clause-traced : goal.returns-in_default-clause-traced
returns-in_default-clause-traced c = λ r m past made are says traced.
    traced_same r.program (after_letter r Answer m) m c.args.self.now
    (answer_quiet r m (λ e. c.in_default.not-Answered (says ∙ sym e))
    (λ was e. c.in_default.not-Faulted was (says ∙ sym e)))
    traced
