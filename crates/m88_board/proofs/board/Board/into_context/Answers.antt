-- What is taken apart of a board is its context.
use Rattle.std.specs.Prelude.{◌≡◌}
use Rattle.std.proofs.Common.{ap, subst, sym, ◌∙◌}
use Rattle.m88_board.proofs.Ending.{none_wait}
use Rattle.m88_board.proofs.Suspending.{own_run, stands_for}
use Rattle.m88_board.specs.Contexts.{IsRunOf, StandsFor, context_of}
use Rattle.m88_board.specs.Kept.{epsr_of}
use Rattle.m88_board.specs.contracts.board.Board.{the_view}
use Rattle.m88_board.specs.declared.context.Context.{Context}
use Rattle.m88_board.proofs.board.Board.into_context.Goals as goal

abbrev made : goal.After-shadow-sxip → Context
made c = record {
  saved = record {
    regs = c.values-regs.result;
    epsr = c.status-epsr.result;
    sxip = c.shadow-sxip.result.0;
    snip = c.shadow-sxip.result.1;
    sfip = c.shadow-sxip.result.2;
  };
  memory = c.self.inside.memory;
  book = c.self.inside.book;
}

own_words : (c : goal.After-shadow-sxip) → made c ≡ context_of (the_view c.self.inside)
own_words c =
    let none = rw (← c.self.view_is) at c.requires in
    let regs = c.values-regs.ensures.whole (none_wait (the_view c.self.inside) c.self.invariant none) in
    let epsr = c.status-epsr.ensures ∙ ap epsr_of (sym c.self.view_is) in
    λ i. record {
      saved = record {
        regs = regs i;
        epsr = epsr i;
        sxip = (c.shadow-sxip.ensures.value i).0;
        snip = (c.shadow-sxip.ensures.value i).1;
        sfip = (c.shadow-sxip.ensures.value i).2;
      };
      memory = c.self.inside.memory;
      book = c.self.inside.book;
    }

pub returns-clause-value : goal.returns-clause-value
returns-clause-value c = rw (← c.self.view_is) (own_words c)

pub returns-clause-run : goal.returns-clause-run
returns-clause-run c = rw (← c.self.view_is)
    (subst (λ (k : Context). IsRunOf k (the_view c.self.inside)) (sym (own_words c)) (own_run (the_view c.self.inside) c.self.invariant))

pub returns-clause-stands : goal.returns-clause-stands
returns-clause-stands c =
    let none = rw (← c.self.view_is) at c.requires in
    rw (← c.self.view_is)
    (λ r m names at. subst (StandsFor r m) (sym (own_words c))
    (stands_for r m (the_view c.self.inside) at names c.self.invariant none))
