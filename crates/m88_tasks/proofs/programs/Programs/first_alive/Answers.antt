-- The programs are tried from one on.
use Rattle.std.proofs.Common.{◌∙◌, ap, sym}
use Rattle.std.specs.Prelude.{not}
use Rattle.m88_board.proofs.Laws.{here_first, not_here, nowhere}
use Rattle.m88_tasks.specs.Shared.{over_at}
use Rattle.m88_tasks.proofs.programs.Programs.first_alive.Goals as goal

pub returns-then-not-is_over_at : goal.returns-then-not-is_over_at
returns-then-not-is_over_at c = λ g moments current are.
    sym (here_first c.loop-q.q c.args.before (λ q. not (over_at g moments q)) c.loop-q-test.true
    (ap not (sym (c.is_over_at.ensures g moments current are) ∙ c.if-not-is_over_at.true)))
    ∙ c.loop-q.invariant g moments current are

pub loop-q-preserved : goal.loop-q-preserved
loop-q-preserved c = λ g moments current are.
    not_here c.loop-q.q c.args.before (λ q. not (over_at g moments q)) c.loop-q-test.true
    (ap not (sym (c.is_over_at.ensures g moments current are) ∙ c.if-not-is_over_at.false))
    ∙ c.loop-q.invariant g moments current are

pub returns : goal.returns
returns c = λ g moments current are.
    sym (nowhere c.loop-q.q c.args.before (λ q. not (over_at g moments q)) c.loop-q-test.false)
    ∙ c.loop-q.invariant g moments current are
