-- What is written is the reply, whole or a part of it, and what is told is its refusal.
use Rattle.std.proofs.Common.{◌≡◌, rules, subst, sym}
use Rattle.m88_base.specs.Words.{texts}
use Rattle.m88_base.proofs.Laws.{answers_input, answers_nothing, answers_reply, none_of_reading, tells_refused}
use Rattle.m88_sourcing.specs.Answer.{AsAsked, IsToldOf, SourcesAccepted, SourcesRefused}
use Rattle.m88_sourcing.specs.Inputs.{IsAcceptedIn}
use Rattle.m88_sourcing.specs.Request.{Asks, Request}
use Rattle.m88_sourcing.proofs.Promises.{sourcing_laws}
use Rattle.m88_sourcing.proofs.Verdicts.{accepted_in, not_both, reply_sourced, reply_told, source_verdicts, sourced_some}
use Rattle.m88_sourcing.proofs.program.source_input.Goals as goal

pub returns-in_default-clause-filters : goal.returns-in_default-clause-filters
returns-in_default-clause-filters g c =
    let words = texts c.args.words.now in
    rw c.unrefused.ensures (record {
      usage = search rules;
      reading = search rules;
      writing = search rules;
      answers = answers_nothing g.S.Source.left g.K.Sink.held g.K.Sink.calls (AsAsked words SourcesAccepted) (AsAsked words SourcesRefused)
          _ _ _ _ (sourced_some words) tt;
    })

pub returns-in-Err-clause-filters : goal.returns-in-Err-clause-filters
returns-in-Err-clause-filters g c =
    let words = texts c.args.words.now in
    rw c.unrefused-in-Err.ensures (record {
      usage = search rules;
      reading = search rules;
      writing = search rules;
      answers = answers_nothing g.S.Source.left g.K.Sink.held g.K.Sink.calls (AsAsked words SourcesAccepted) (AsAsked words SourcesRefused)
          _ _ _ _ (sourced_some words) (none_of_reading c.in-Err.status c.in-Err.ensures.status);
    })

pub returns-in-Ok-clause-filters : goal.returns-in-Ok-clause-filters
returns-in-Ok-clause-filters g c =
    let words = texts c.args.words.now in
    let known = c.in-Some.ensures.found in
    let ok = c.in-Ok.ensures.ok in
    record {
      usage = search rules;
      reading = search rules;
      writing = search rules;
      answers = answers_reply g.S.Source.left g.K.Sink.held g.K.Sink.calls (AsAsked words SourcesAccepted) (AsAsked words SourcesRefused)
          _ _ _ _ c.in-Ok.reply _ (ok.0, ok.1, reply_sourced words known.0 ok.0 c.in-Ok.reply known.1 (ok.2 known.0 known.2).0)
          c.write_to.ensures.written c.write_to.ensures.done c.write_to.ensures.refused
          (source_verdicts words known.0 (λ r asks. c.in-Some.ensures.one known.0 r known.1 asks)) c.write_to.ensures.calls
          c.write_to.ensures.part;
    }

pub returns-in_default-clause-complete : goal.returns-in_default-clause-complete
returns-in_default-clause-complete g c = λ request asks bytes holds sound unfailing.
    absurd (c.in_default.ensures.only request asks)

pub returns-in-Ok-clause-complete : goal.returns-in-Ok-clause-complete
returns-in-Ok-clause-complete g c = λ request asks bytes holds sound unfailing.
    let words = texts c.args.words.now in
    let known = c.in-Some.ensures.found in
    let ok = c.in-Ok.ensures.ok in
    let one : (r : Request) (asks_it : Asks words r) → r ≡ request =
    λ r asks_it. c.in-Some.ensures.one r request asks_it asks in
    answers_input g.S.Source.left g.K.Sink.held g.K.Sink.calls (AsAsked words SourcesAccepted) (AsAsked words SourcesRefused)
    _ _ _ _ c.in-Ok.reply _ (ok.0, ok.1, reply_sourced words known.0 ok.0 c.in-Ok.reply known.1 (ok.2 known.0 known.2).0)
    c.write_to.ensures.written c.write_to.ensures.done c.write_to.ensures.refused (IsAcceptedIn request.binary bytes) bytes holds.0
    (λ told. subst (λ (r : Request). IsAcceptedIn r.binary bytes) (one told.request told.asked)
    (accepted_in told.request.binary bytes told.is_text.image told.is_text.is_image))
    (λ told accepted. not_both told.request.binary bytes told.is_text.refusal
    (subst (λ (r : Request). IsAcceptedIn r.binary bytes) (sym (one told.request told.asked)) accepted) told.is_text.refused)
    (λ e. unfailing (c.write_to.ensures.sink_fault e))

pub returns-in_default-clause-one_request : goal.returns-in_default-clause-one_request
returns-in_default-clause-one_request g c = λ a b first second. absurd (c.in_default.ensures.only a first)

pub returns-in-Err-clause-one_request : goal.returns-in-Err-clause-one_request
returns-in-Err-clause-one_request g c = c.in-Some.ensures.one

pub returns-in-Ok-clause-one_request : goal.returns-in-Ok-clause-one_request
returns-in-Ok-clause-one_request g c = c.in-Some.ensures.one

pub returns-in_default-clause-laws : goal.returns-in_default-clause-laws
returns-in_default-clause-laws g c = sourcing_laws

pub returns-in-Err-clause-laws : goal.returns-in-Err-clause-laws
returns-in-Err-clause-laws g c = sourcing_laws

pub returns-in-Ok-clause-laws : goal.returns-in-Ok-clause-laws
returns-in-Ok-clause-laws g c = sourcing_laws

pub returns-in-Ok-clause-told : goal.returns-in-Ok-clause-told
returns-in-Ok-clause-told g c =
    let known = c.in-Some.ensures.found in
    let ok = c.in-Ok.ensures.ok in
    tells_refused g.S.Source.left _ _ (IsToldOf (texts c.args.words.now)) c.in-Ok.reply _
    (ok.0, ok.1, reply_told (texts c.args.words.now) known.0 ok.0 c.in-Ok.reply known.1 (ok.2 known.0 known.2).1)
    c.write_to.ensures.told
