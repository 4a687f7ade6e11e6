-- What is written is the reply, whole or a part of it, and what is told is its refusal.
use Rattle.std.proofs.Common.{rules, sym}
use Rattle.m88_base.proofs.Laws.{answers_input, answers_nothing, answers_reply, none_of_reading, tells_refused}
use Rattle.m88_base.specs.Reply.{ShowsLineOf}
use Rattle.m88_base.specs.Words.{texts}
use Rattle.m88_supering.specs.Answer.{AsAsked, IsAccepted, IsMade, IsToldBy, IsTurnedDown}
use Rattle.m88_supering.specs.Inside.Replies.{Replies}
use Rattle.m88_supering.proofs.Keeping.{handler_laws}
use Rattle.m88_supering.proofs.Verdicts.{asked_some, down_unaccepted, made_accepted, replied, same_request, told_by_words, verdicts}
use Rattle.m88_supering.proofs.program.try_handler.Goals as goal

pub returns-in_default-clause-filters : goal.returns-in_default-clause-filters
returns-in_default-clause-filters g c =
    let words = texts c.args.words.now in
    rw c.unrefused.ensures (record {
      usage = search rules;
      reading = search rules;
      writing = search rules;
      answers = answers_nothing g.S.Source.left g.K.Sink.held g.K.Sink.calls (AsAsked words IsMade) (AsAsked words IsTurnedDown)
          _ _ _ _ (asked_some words) tt;
    })

pub returns-in-Err-clause-filters : goal.returns-in-Err-clause-filters
returns-in-Err-clause-filters g c =
    let words = texts c.args.words.now in
    rw c.unrefused-in-Err.ensures (record {
      usage = search rules;
      reading = search rules;
      writing = search rules;
      answers = answers_nothing g.S.Source.left g.K.Sink.held g.K.Sink.calls (AsAsked words IsMade) (AsAsked words IsTurnedDown)
          _ _ _ _ (asked_some words) (none_of_reading c.in-Err.status c.in-Err.ensures.status);
    })

pub returns-in-Ok-clause-filters : goal.returns-in-Ok-clause-filters
returns-in-Ok-clause-filters g c =
    let words = texts c.args.words.now in
    let ok = c.in-Ok.ensures.ok in
    let replies : Replies c.in-Some.request ok.0 c.in-Ok.reply = search rules in
    record {
      usage = search rules;
      reading = search rules;
      writing = search rules;
      answers = answers_reply g.S.Source.left g.K.Sink.held g.K.Sink.calls (AsAsked words IsMade) (AsAsked words IsTurnedDown)
          _ _ _ _ c.in-Ok.reply _ (ok.0, ok.1, replied words c.in-Some.request ok.0 c.in-Ok.reply (sym c.in-Some.ensures.asked) replies)
          c.write_to.ensures.written c.write_to.ensures.done c.write_to.ensures.refused
          (verdicts words) c.write_to.ensures.calls c.write_to.ensures.part;
    }

pub returns-in-Ok-clause-complete : goal.returns-in-Ok-clause-complete
returns-in-Ok-clause-complete g c = λ request asks bytes had unbroken unfailing.
    let words = texts c.args.words.now in
    let ok = c.in-Ok.ensures.ok in
    let replies : Replies c.in-Some.request ok.0 c.in-Ok.reply = search rules in
    answers_input g.S.Source.left g.K.Sink.held g.K.Sink.calls (AsAsked words IsMade) (AsAsked words IsTurnedDown)
    _ _ _ _ c.in-Ok.reply _ (ok.0, ok.1, replied words c.in-Some.request ok.0 c.in-Ok.reply (sym c.in-Some.ensures.asked) replies)
    c.write_to.ensures.written c.write_to.ensures.done c.write_to.ensures.refused (IsAccepted request bytes) bytes had.0
    (λ made. same_request words made.request request bytes made.asked asks (made_accepted made.request bytes c.in-Ok.reply.text.items made.is_text))
    (λ down accepted. down_unaccepted down.request bytes c.in-Ok.reply.text.items down.is_text
    (same_request words request down.request bytes asks down.asked accepted))
    (λ e. unfailing (c.write_to.ensures.sink_fault e))

pub returns-in-Ok-clause-told : goal.returns-in-Ok-clause-told
returns-in-Ok-clause-told g c =
    let words = texts c.args.words.now in
    let ok = c.in-Ok.ensures.ok in
    let replies : Replies c.in-Some.request ok.0 c.in-Ok.reply = search rules in
    let shows : ShowsLineOf ok.0 c.in-Ok.reply = search rules in
    tells_refused g.S.Source.left _ _ (IsToldBy words) c.in-Ok.reply _
    (ok.0, ok.1, told_by_words words c.in-Some.request ok.0 c.in-Ok.reply (sym c.in-Some.ensures.asked) replies shows) c.write_to.ensures.told

pub returns-in_default-clause-laws : goal.returns-in_default-clause-laws
returns-in_default-clause-laws g c = handler_laws

pub returns-in-Err-clause-laws : goal.returns-in-Err-clause-laws
returns-in-Err-clause-laws g c = handler_laws

pub returns-in-Ok-clause-laws : goal.returns-in-Ok-clause-laws
returns-in-Ok-clause-laws g c = handler_laws
