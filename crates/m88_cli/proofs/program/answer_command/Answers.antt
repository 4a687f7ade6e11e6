-- What is written is the reply, whole or a part of it, what is told is its refusal, and the watch was shown what it says.
use Rattle.std.proofs.Common.{◌≡◌, ◌⊎◌, ℕ, List, Err, Some, ap, inl, inr, refl, rules, subst, sym, ◌∙◌}
use Rattle.m88_base.proofs.Laws.{answers_input, answers_nothing, answers_reply, none_of_reading}
use Rattle.m88_base.specs.Filter.{AnswersFor}
use Rattle.m88_base.specs.Status.{Answers, WritesNothing}
use Rattle.m88_commands.proofs.Laws.{command_laws, refused_not_accepted}
use Rattle.m88_commands.specs.Answer.{Accepts}
use Rattle.m88_commands.specs.Command.{Command, command_of, reads_input, shows_boards}
use Rattle.m88_commands.specs.Inputs.{GivesInput, left_for}
use Rattle.m88_commands.specs.Watching.{FrontOfAccepted}
use Rattle.m88_cli.specs.Calls.{AcceptedWith, RefusedWith}
use Rattle.m88_cli.proofs.Answering.{not_of_source, not_refused, of_words, only_memory, shows_refused, unanswered, watch_unshown}
use Rattle.m88_cli.proofs.Replied.{answers_as, refused_some, told_by, verdicts}
use Rattle.m88_cli.proofs.program.answer_command.Goals as goal

pub returns-in_default-clause-carries_out : goal.returns-in_default-clause-carries_out
returns-in_default-clause-carries_out g c = rw c.unrefused.ensures (record {
  usage = record { usage = (λ e command spelled. c.in_default.ensures.only command spelled, λ none. refl); unread = λ none. refl };
  spelled = λ other. absurd (other refl);
  unread = λ none. (refl, of_words.0, of_words.1);
  reading = search rules;
  writing = search rules;
  answers = λ command spelled. absurd (c.in_default.ensures.only command spelled);
})

pub returns-in-Err-clause-carries_out : goal.returns-in-Err-clause-carries_out
returns-in-Err-clause-carries_out g c =
    let own = command_of c.in-Some.command in
    rw c.unrefused-in-Err.ensures (record {
      usage = search rules;
      spelled = λ other. (own, c.in-Some.ensures.found);
      unread = λ none.
          let unread = none own c.in-Some.ensures.found in
          let memory = only_memory c.in-Err.status (c.in-Err.ensures.memory unread) in
          (c.reply_from.ensures.unread unread, memory.0, memory.1);
      reading = search rules;
      writing = search rules;
      answers = λ command spelled.
          answers_nothing (λ s. left_for command (g.S.Source.left s)) g.K.Sink.held g.K.Sink.calls
          (AcceptedWith g.W.Watch.seen c.args.watch.now c.reply_from.new.watch command)
          (RefusedWith c.args.watch.now c.reply_from.new.watch command) _ _ _ _
          (refused_some g.W.Watch.seen c.args.watch.now c.reply_from.new.watch command)
          (none_of_reading c.in-Err.status c.in-Err.ensures.status);
    })

pub returns-in-Ok-clause-carries_out : goal.returns-in-Ok-clause-carries_out
returns-in-Ok-clause-carries_out g c =
    let own = command_of c.in-Some.command in
    let ok = c.in-Ok.ensures.ok in
    record {
      usage = search rules;
      spelled = λ other. (own, c.in-Some.ensures.found);
      unread = λ none.
          let unread = none own c.in-Some.ensures.found in
          let sound = not_of_source c.write_to.result.status c.write_to.ensures.written in
          (c.reply_from.ensures.unread unread, sound.0, sound.1);
      reading = search rules;
      writing = search rules;
      answers = λ command spelled.
          subst (λ (command : Command). AnswersFor (λ s. left_for command (g.S.Source.left s)) g.K.Sink.held g.K.Sink.calls
          c.args.source.now c.reply_from.new.source c.args.sink.now c.write_to.new.sink
          (AcceptedWith g.W.Watch.seen c.args.watch.now c.reply_from.new.watch command)
          (RefusedWith c.args.watch.now c.reply_from.new.watch command) c.write_to.result.status)
          (c.in-Some.ensures.only command spelled)
          (answers_reply (λ s. left_for own (g.S.Source.left s)) g.K.Sink.held g.K.Sink.calls
          (AcceptedWith g.W.Watch.seen c.args.watch.now c.reply_from.new.watch own)
          (RefusedWith c.args.watch.now c.reply_from.new.watch own) _ _ _ _ c.in-Ok.reply _
          (ok.0, ok.1, answers_as g.W.Watch.seen c.args.watch.now c.reply_from.new.watch own ok.0 c.in-Ok.reply ok.2 ok.3)
          c.write_to.ensures.written c.write_to.ensures.done c.write_to.ensures.refused
          (verdicts g.W.Watch.seen c.args.watch.now c.reply_from.new.watch own) c.write_to.ensures.calls c.write_to.ensures.part);
    }

pub returns-in_default-clause-complete : goal.returns-in_default-clause-complete
returns-in_default-clause-complete g c = λ command spelled input holds sound unfailing.
    absurd (c.in_default.ensures.only command spelled)

pub returns-in-Err-clause-complete : goal.returns-in-Err-clause-complete
returns-in-Err-clause-complete g c = λ command spelled input holds sound unfailing.
    let same : command_of c.in-Some.command ≡ command = c.in-Some.ensures.only command spelled in
    rw c.unrefused-in-Err.ensures (unanswered (Accepts command input) command (g.S.Source.left c.args.source.now) (g.S.Source.left c.reply_from.new.source)
    input c.in-Err.status holds c.in-Err.ensures.status (λ e. sound (c.reply_from.ensures.reading.fault (c.in-Err.is ∙ ap Err e)))
    (λ e. c.reply_from.ensures.reading.too_long (c.in-Err.is ∙ ap Err e)) (λ e. c.in-Err.ensures.memory (ap reads_input same ∙ e)))

pub returns-in-Ok-clause-complete : goal.returns-in-Ok-clause-complete
returns-in-Ok-clause-complete g c = λ command spelled input holds sound unfailing.
    let own = command_of c.in-Some.command in
    let ok = c.in-Ok.ensures.ok in
    let same : own ≡ command = c.in-Some.ensures.only command spelled in
    let had = subst (λ (d : Command). left_for d (g.S.Source.left c.args.source.now) ≡ Some input) (sym same) holds.0 in
    subst (λ (d : Command). Answers (Accepts d input) c.write_to.result.status) same
    (answers_input (λ s. left_for own (g.S.Source.left s)) g.K.Sink.held g.K.Sink.calls
    (AcceptedWith g.W.Watch.seen c.args.watch.now c.reply_from.new.watch own)
    (RefusedWith c.args.watch.now c.reply_from.new.watch own) _ _ _ _ c.in-Ok.reply _
    (ok.0, ok.1, answers_as g.W.Watch.seen c.args.watch.now c.reply_from.new.watch own ok.0 c.in-Ok.reply ok.2 ok.3)
    c.write_to.ensures.written c.write_to.ensures.done c.write_to.ensures.refused
    (Accepts own input) input had
    (λ accepted. accepted.0.accepted)
    (λ refused. refused_not_accepted own input refused.0.refusal refused.0.refused)
    (λ e. unfailing (c.write_to.ensures.sink_fault e)))

pub returns-in-Err-clause-unshown : goal.returns-in-Err-clause-unshown
returns-in-Err-clause-unshown g c = λ none. elim none [
  | inl status ↦ c.in-Err.ensures.unshown (rw c.unrefused-in-Err.ensures at status)
  | inr silent ↦ c.reply_from.ensures.unshown_by (silent (command_of c.in-Some.command) c.in-Some.ensures.found)
]

pub returns-in-Ok-clause-unshown : goal.returns-in-Ok-clause-unshown
returns-in-Ok-clause-unshown g c = λ none. elim none [
  | inl status ↦
      let refused = c.write_to.ensures.refused (shows_refused c.write_to.result.status c.write_to.ensures.written status) in
      let ok = c.in-Ok.ensures.ok in watch_unshown c.in-Ok.reply.refused _ _ refused.0 ok.3
  | inr silent ↦ c.reply_from.ensures.unshown_by (silent (command_of c.in-Some.command) c.in-Some.ensures.found)
]

pub returns-in_default-clause-front : goal.returns-in_default-clause-front
returns-in_default-clause-front g c = λ command spelled e. absurd (c.in_default.ensures.only command spelled)

pub returns-in-Err-clause-front : goal.returns-in-Err-clause-front
returns-in-Err-clause-front g c = λ command spelled e.
    subst (λ (d : Command). (c.reply_from.new.watch ≡ c.args.watch.now) ⊎ ((input : List ℕ)
    × GivesInput d (g.S.Source.left c.args.source.now) (g.S.Source.left c.reply_from.new.source) input
    × FrontOfAccepted d input (g.W.Watch.seen c.args.watch.now) (g.W.Watch.seen c.reply_from.new.watch)))
    (c.in-Some.ensures.only command spelled) c.in-Err.ensures.front

pub returns-in-Ok-clause-front : goal.returns-in-Ok-clause-front
returns-in-Ok-clause-front g c = λ command spelled e. absurd (c.write_to.ensures.written (subst WritesNothing (sym e) tt))

pub returns-in_default-clause-laws : goal.returns-in_default-clause-laws
returns-in_default-clause-laws g c = command_laws

pub returns-in-Err-clause-laws : goal.returns-in-Err-clause-laws
returns-in-Err-clause-laws g c = command_laws

pub returns-in-Ok-clause-laws : goal.returns-in-Ok-clause-laws
returns-in-Ok-clause-laws g c = command_laws

pub returns-in-Err-clause-told : goal.returns-in-Err-clause-told
returns-in-Err-clause-told g c = rw c.unrefused-in-Err.ensures (not_refused c.in-Err.status c.in-Err.ensures.status)

pub returns-in-Ok-clause-told : goal.returns-in-Ok-clause-told
returns-in-Ok-clause-told g c =
    let ok = c.in-Ok.ensures.ok in
    told_by g.S.Source.left c.args.source.now c.reply_from.new.source _ (command_of c.in-Some.command) c.in-Some.ensures.found ok.0
    c.in-Ok.reply c.write_to.result ok.1 ok.2 ok.4 c.write_to.ensures.told
