-- What is written is the reply, whole or a part of it, and what is told is its refusal.
use Rattle.std.proofs.Common.{rules}
use Rattle.m88_base.proofs.Laws.{answers_input, answers_nothing, answers_reply, none_of_reading}
use Rattle.m88_asm.proofs.Laws.{not_linked}
use Rattle.m88_asm.specs.Sources.{IsProgramSource}
use Rattle.m88_listing.specs.Answer.{ListsRefused}
use Rattle.m88_listing.specs.Listing.{ListsAccepted}
use Rattle.m88_listing.specs.Inside.Replies.{ListsAs}
use Rattle.m88_listing.proofs.Promises.{listing_laws}
use Rattle.m88_listing.proofs.Verdict.{list_verdicts, refused_plainly}
use Rattle.m88_listing.proofs.Whole.{text_some}
use Rattle.m88_listing.proofs.program.list_source.Goals as goal

pub returns-then-not-is_empty-clause-filters : goal.returns-then-not-is_empty-clause-filters
returns-then-not-is_empty-clause-filters g c = rw c.unrefused.ensures (record {
  usage = search rules;
  reading = search rules;
  writing = search rules;
  answers = answers_nothing g.S.Source.left g.K.Sink.held g.K.Sink.calls ListsAccepted ListsRefused _ _ _ _ text_some tt;
})

pub returns-in-Err-clause-filters : goal.returns-in-Err-clause-filters
returns-in-Err-clause-filters g c = rw c.unrefused-in-Err.ensures (record {
  usage = search rules;
  reading = search rules;
  writing = search rules;
  answers = answers_nothing g.S.Source.left g.K.Sink.held g.K.Sink.calls ListsAccepted ListsRefused _ _ _ _ text_some
      (none_of_reading c.in-Err.status c.in-Err.ensures.status);
})

pub returns-in-Ok-clause-filters : goal.returns-in-Ok-clause-filters
returns-in-Ok-clause-filters g c =
    let ok = c.in-Ok.ensures.ok in
    let replies : ListsAs ok.0 c.in-Ok.reply = search rules in
    record {
      usage = search rules;
      reading = search rules;
      writing = search rules;
      answers = answers_reply g.S.Source.left g.K.Sink.held g.K.Sink.calls ListsAccepted ListsRefused _ _ _ _ c.in-Ok.reply _
          (ok.0, ok.1, replies.0) c.write_to.ensures.written c.write_to.ensures.done c.write_to.ensures.refused
          list_verdicts c.write_to.ensures.calls c.write_to.ensures.part;
    }

pub returns-in-Ok-clause-complete : goal.returns-in-Ok-clause-complete
returns-in-Ok-clause-complete g c = λ none bytes had unbroken unfailing.
    let ok = c.in-Ok.ensures.ok in
    let replies : ListsAs ok.0 c.in-Ok.reply = search rules in
    answers_input g.S.Source.left g.K.Sink.held g.K.Sink.calls ListsAccepted ListsRefused _ _ _ _ c.in-Ok.reply _
    (ok.0, ok.1, replies.0) c.write_to.ensures.written c.write_to.ensures.done c.write_to.ensures.refused
    (IsProgramSource bytes) bytes had.0 (λ told. told.accepted)
    (λ told accepted. not_linked 0 bytes told.refusal accepted (refused_plainly bytes told.refusal told.rows told.refused))
    (λ e. unfailing (c.write_to.ensures.sink_fault e))

pub returns-then-not-is_empty-clause-laws : goal.returns-then-not-is_empty-clause-laws
returns-then-not-is_empty-clause-laws g c = listing_laws

pub returns-in-Err-clause-laws : goal.returns-in-Err-clause-laws
returns-in-Err-clause-laws g c = listing_laws

pub returns-in-Ok-clause-laws : goal.returns-in-Ok-clause-laws
returns-in-Ok-clause-laws g c = listing_laws
