-- What is written is the reply, whole or a part of it, and what is told is its refusal.
use Rattle.std.proofs.Common.{rules}
use Rattle.m88_base.proofs.Laws.{answers_input, answers_nothing, answers_reply, none_of_reading}
use Rattle.m88_serving.specs.Served.{IsServed, IsTurnedDown}
use Rattle.m88_serving.specs.Verdict.{IsTakenCase}
use Rattle.m88_serving.specs.Inside.Replies.{RepliesServed}
use Rattle.m88_serving.proofs.Promises.{serving_laws}
use Rattle.m88_serving.proofs.Verdicts.{not_both, serve_verdicts, turned_down_some}
use Rattle.m88_serving.proofs.program.serve_case.Goals as goal

pub returns-then-not-is_empty-clause-filters : goal.returns-then-not-is_empty-clause-filters
returns-then-not-is_empty-clause-filters g c = rw c.unrefused.ensures (record {
  usage = search rules;
  reading = search rules;
  writing = search rules;
  answers = answers_nothing g.S.Source.left g.K.Sink.held g.K.Sink.calls IsServed IsTurnedDown _ _ _ _ turned_down_some tt;
})

pub returns-in-Err-clause-filters : goal.returns-in-Err-clause-filters
returns-in-Err-clause-filters g c = rw c.unrefused-in-Err.ensures (record {
  usage = search rules;
  reading = search rules;
  writing = search rules;
  answers = answers_nothing g.S.Source.left g.K.Sink.held g.K.Sink.calls IsServed IsTurnedDown _ _ _ _ turned_down_some
      (none_of_reading c.in-Err.status c.in-Err.ensures.status);
})

pub returns-in-Ok-clause-filters : goal.returns-in-Ok-clause-filters
returns-in-Ok-clause-filters g c =
    let ok = c.in-Ok.ensures.ok in
    let replies : RepliesServed ok.0 c.in-Ok.reply = search rules in
    record {
      usage = search rules;
      reading = search rules;
      writing = search rules;
      answers = answers_reply g.S.Source.left g.K.Sink.held g.K.Sink.calls IsServed IsTurnedDown _ _ _ _ c.in-Ok.reply _
          (ok.0, ok.1, replies.0) c.write_to.ensures.written c.write_to.ensures.done c.write_to.ensures.refused
          serve_verdicts c.write_to.ensures.calls c.write_to.ensures.part;
    }

pub returns-in-Ok-clause-complete : goal.returns-in-Ok-clause-complete
returns-in-Ok-clause-complete g c = λ none bytes had unbroken unfailing.
    let ok = c.in-Ok.ensures.ok in
    let replies : RepliesServed ok.0 c.in-Ok.reply = search rules in
    answers_input g.S.Source.left g.K.Sink.held g.K.Sink.calls IsServed IsTurnedDown _ _ _ _ c.in-Ok.reply _
    (ok.0, ok.1, replies.0) c.write_to.ensures.written c.write_to.ensures.done c.write_to.ensures.refused
    (IsTakenCase bytes) bytes had.0
    (λ served. record { told = served.told; accepted = served.accepted })
    (λ down accepted. not_both bytes accepted.told down.fault accepted.accepted down.refused)
    (λ e. unfailing (c.write_to.ensures.sink_fault e))

pub returns-then-not-is_empty-clause-laws : goal.returns-then-not-is_empty-clause-laws
returns-then-not-is_empty-clause-laws g c = serving_laws

pub returns-in-Err-clause-laws : goal.returns-in-Err-clause-laws
returns-in-Err-clause-laws g c = serving_laws

pub returns-in-Ok-clause-laws : goal.returns-in-Ok-clause-laws
returns-in-Ok-clause-laws g c = serving_laws
