-- What goes on makes accesses of words, and goes on at words.
use Rattle.std.proofs.Common.{sym, subst}
use Rattle.m88_isa.specs.Memory.{AreWordAccesses}
use Rattle.m88_trace.proofs.doing.carried_out.Goals as goal

pub returns-in-Go-clause-follows : goal.returns-in-Go-clause-follows
returns-in-Go-clause-follows c =
    let made = c.in-Go.ensures.accesses in (
      subst (λ n. AreWordAccesses n c.in-Go.effect.accesses) (sym made.0) made,
      c.in-Go.ensures.flow c.requires.place.here c.requires.place.behind,
    )
