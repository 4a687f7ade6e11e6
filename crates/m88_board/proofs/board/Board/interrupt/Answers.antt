-- Programs change places: the parts of the board come from the context, and the context has what is saved of the board.
use Rattle.std.specs.Prelude.{[], false, ◌≡◌}
use Rattle.std.proofs.Common.{ap, refl, rules, subst, sym, ◌∙◌}
use Rattle.m88_ctrl.specs.ControlRegisters.{ControlRegisters}
use Rattle.m88_board.proofs.Moving.{empty_of}
use Rattle.m88_board.proofs.Resuming.{ComesFrom, at_from, kept_from, words_from, zero_in}
use Rattle.m88_board.proofs.Suspending.{all_done, saved_is, stands_for}
use Rattle.m88_board.specs.Board.{BoardView}
use Rattle.m88_board.specs.Contexts.{StandsFor, context_of}
use Rattle.m88_board.specs.contracts.board.Board.{the_view}
use Rattle.m88_board.specs.declared.context.Context.{Context}
use Rattle.m88_board.proofs.board.Board.interrupt.Goals as goal

-- nothing is pending
none_pending : (c : goal.After-swap-2) → c.self.inside.dunit ≡ []
none_pending c =
    let tested = rw (← c.self.view_is) at c.is_pending.ensures in
    let no : c.is_pending.result ≡ false = search rules in
    empty_of c.self.inside.dunit (sym tested ∙ no)

-- the board afterwards
abbrev new_board : goal.After-swap-2 → BoardView
new_board c = record {
  slots = c.come_back-self-inside.result;
  pending = c.self.inside.dunit;
  file = c.of-self-inside.result;
  memory = c.swap.new.x;
  control = c.come_back-self-inside.new.ctrl;
  book = c.swap-2.new.x;
  begun = c.self.inside.begun;
}

from : (c : goal.After-swap-2) → ComesFrom c.args.other.now (new_board c)
from c = record {
  slots = c.come_back-self-inside.ensures.slots;
  pending = none_pending c;
  memory = c.swap.ensures.x_after;
  book = c.swap-2.ensures.x_after;
  begun = rw (← c.self.view_is) at c.requires.begun;
  are = record {
    numbers = c.of-self-inside.ensures.numbers;
    waiting = c.of-self-inside.ensures.waiting;
    psr = ap (λ (r : ControlRegisters). r.psr) c.come_back-self-inside.ensures.control;
    epsr = ap (λ (r : ControlRegisters). r.epsr) c.come_back-self-inside.ensures.control;
  };
}

-- the context afterwards
abbrev new_context : goal.After-swap-2 → Context
new_context c = record {
  saved = c.saved_by-other.result;
  memory = c.swap.new.y;
  book = c.swap-2.new.y;
}

kept_words : (c : goal.After-swap-2) → new_context c ≡ context_of (the_view c.self.inside)
kept_words c =
    let saved = saved_is (the_view c.self.inside) c.saved_by-other.result c.values-regs.result c.is_some.result c.leave.new.ctrl
    c.self.invariant (none_pending c) c.values-regs.ensures.whole c.is_some.ensures c.leave.ensures c.saved_by-other.ensures in
    λ i. record {
      saved = saved i;
      memory = c.swap.ensures.y_after i;
      book = c.swap-2.ensures.y_after i;
    }

pub of-self-inside-requires : goal.of-self-inside-requires
of-self-inside-requires c =
    let stands = c.requires.stands in
    zero_in stands.0 stands.1 c.args.other.now stands.2

pub invariant_of-self : goal.invariant_of-self
invariant_of-self c = kept_from c.args.other.now (new_board c) c.requires.stands (from c)

pub returns-clause-empty : goal.returns-clause-empty
returns-clause-empty c = none_pending c

pub returns-clause-resumed : goal.returns-clause-resumed
returns-clause-resumed c = λ r m stands. at_from r m c.args.other.now (new_board c) stands (from c)

pub returns-clause-suspended : goal.returns-clause-suspended
returns-clause-suspended c = rw (← c.self.view_is)
    (λ r m names at. subst (StandsFor r m) (sym (kept_words c))
    (stands_for r m (the_view c.self.inside) at names c.self.invariant (none_pending c)))

pub returns-clause-runs : goal.returns-clause-runs
returns-clause-runs c = words_from c.args.other.now (new_board c) (from c)

pub returns-clause-keeps : goal.returns-clause-keeps
returns-clause-keeps c = rw (← c.self.view_is) (kept_words c)

pub returns-clause-drained : goal.returns-clause-drained
returns-clause-drained c = λ r m at.
    let stands = rw (← c.self.view_is) at at in
    (λ ok. all_done r m (the_view c.self.inside) stands (none_pending c), λ done. refl)

pub returns-clause-kept : goal.returns-clause-kept
returns-clause-kept c = kept_from c.args.other.now (new_board c) c.requires.stands (from c)
