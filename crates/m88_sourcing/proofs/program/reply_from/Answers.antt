-- The reply is to what was read, as is asked for.
use Rattle.std.proofs.Common.{Option, subst}
use Rattle.m88_sourcing.specs.Inside.Replies.{IsInputRead}
use Rattle.m88_sourcing.specs.declared.request.Binary.{Binary}
use Rattle.m88_sourcing.proofs.program.reply_from.Goals as goal

pub returns-clause-ok : goal.returns-clause-ok
returns-clause-ok g c =
    let read = c.in_ok-input.ensures.ok in (
      read.0,
      read.1,
      λ asked kept.
          c.in_ok-reply.ensures asked read.0 kept
          (subst (λ (b : Option Binary). IsInputRead b read.0 c.in_ok-input.input) kept.binary read.2),
    )
