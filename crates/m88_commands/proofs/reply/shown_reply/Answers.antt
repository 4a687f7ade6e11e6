-- The reply answers as it did before its refusal showed a line.
use Rattle.m88_commands.specs.Command.{command_of}
use Rattle.m88_commands.proofs.Showing.{shown_answers}
use Rattle.m88_commands.proofs.reply.shown_reply.Goals as goal

pub returns-clause-answers : goal.returns-clause-answers
returns-clause-answers g c = λ bytes made.
    let answers = c.in_ok-reply.ensures.answers bytes made in
    shown_answers g.W.Watch.seen c.args.watch.now c.reply_to.new.watch (command_of c.args.command) bytes c.in_ok-reply.reply
    answers.reply answers.watched c.showing.result c.showing.ensures.same c.showing.ensures.told
