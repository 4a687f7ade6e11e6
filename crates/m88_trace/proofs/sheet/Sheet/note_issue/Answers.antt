-- An instruction's line, or that of the end.
use Rattle.std.proofs.Common.{sym, subst, ◌∙◌}
use Rattle.m88_trace.proofs.Noting.{ended_note, issue_quiet, issued_note, served_note, traced_same}
use Rattle.m88_trace.proofs.Writing.{ok_on}
use Rattle.m88_board.specs.Told.{IsTold}
use Rattle.m88_event.specs.Timeline.{after_letter}
use Rattle.m88_event.specs.declared.happened.Happened.{Happened}
use Rattle.m88_event.specs.declared.letter.Letter.TheVariants.{Issue}
use Rattle.m88_trace.proofs.sheet.Sheet.note_issue.Goals as goal

pub returns-in-Issued-clause-traced : goal.returns-in-Issued-clause-traced
returns-in-Issued-clause-traced c =
    ok_on c.note_issued.result c.note_issued.ensures.added
    (λ added r m is past made seen tells says traced.
    issued_note r m c.args.self.now c.note_issued.new.self traced c.args.next.now c.args.told.now is past made seen
    (subst (λ (h : Happened). IsTold r m h c.args.told.now) c.in-Issued.is tells)
    (sym c.in-Issued.is ∙ says) added)

pub returns-in-Served-clause-traced : goal.returns-in-Served-clause-traced
returns-in-Served-clause-traced c =
    ok_on c.put_out.result c.put_out.ensures
    (λ added r m is past made seen tells says traced.
    served_note r m c.args.self.now c.put_out.new.self traced c.args.next.now c.args.told.now c.in-Served.byte is
    past made seen (subst (λ (h : Happened). IsTold r m h c.args.told.now) c.in-Served.is tells)
    (sym c.in-Served.is ∙ says) added)

pub returns-in-Ended-clause-traced : goal.returns-in-Ended-clause-traced
returns-in-Ended-clause-traced c =
    ok_on c.end.result c.end.ensures
    (λ added r m is past made seen tells says traced.
    ended_note r m c.args.self.now c.end.new.self traced c.in-Ended.end is past (sym c.in-Ended.is ∙ says) added)

pub returns-in_default-clause-traced : goal.returns-in_default-clause-traced
returns-in_default-clause-traced c = λ r m is past made seen tells says traced.
    traced_same r.program (after_letter r Issue m) m c.args.self.now
    (issue_quiet r m (λ e. c.in_default.not-Issued (says ∙ sym e))
    (λ byte e. c.in_default.not-Served byte (says ∙ sym e))
    (λ end e. c.in_default.not-Ended end (says ∙ sym e)))
    traced
