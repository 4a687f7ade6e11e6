-- The next program runs where the one that runs is over.
use Rattle.std.proofs.Common.{ℕ, [], ◌≡◌, ◌∙◌, sym, subst, true, false}
use Rattle.std.specs.Prelude.{◌≢◌}
use Rattle.m88_tasks.proofs.Settling.{board_says, next_inside, over_empty, settled_next, settled_same}
use Rattle.m88_tasks.specs.Shared.{over_at}
use Rattle.m88_tasks.specs.Tasks.{ArePrograms, ProgramsView}
use Rattle.m88_tasks.proofs.programs.Programs.settle.Goals as goal

pub exchange-requires : goal.exchange-requires
exchange-requires c =
    let some = c.self.invariant in
    let are = subst (ArePrograms some.group some.moments some.current) c.self.view_is some.are in
    record {
      inside = next_inside some.group some.moments some.current c.next-next.result c.args.self.now are
          (c.next-next.ensures some.group some.moments some.current are);
      other = subst (λ (v : ProgramsView). c.next-next.result ≢ v.current) c.self.view_is c.if-next-self.true;
      empty = subst (λ (v : ProgramsView). v.board.pending ≡ []) c.self.view_is
          (over_empty c.self.inside.board c.is_over.result c.if-not-is_over.false c.is_over.ensures.value);
    }

pub returns-then-next-self : goal.returns-then-next-self
returns-then-next-self c = λ g moments current held.
    let are = subst (ArePrograms g moments current) (sym c.self.view_is) held in
    let over : over_at g moments current ≡ true = sym (board_says g moments current _ c.is_over.result are c.is_over.ensures.moment) ∙ c.if-not-is_over.false in
    settled_next g moments current c.next-next.result _ over (c.next-next.ensures g moments current held)
    (c.exchange.ensures g moments current held)

pub returns-else-next-self : goal.returns-else-next-self
returns-else-next-self c = λ g moments current held.
    let are = subst (ArePrograms g moments current) (sym c.self.view_is) held in
    let over : over_at g moments current ≡ true = sym (board_says g moments current _ c.is_over.result are c.is_over.ensures.moment) ∙ c.if-not-is_over.false in
    settled_next g moments current c.next-next.result c.args.self.now over (c.next-next.ensures g moments current held)
    (subst (λ (n : ℕ). ArePrograms g moments n c.args.self.now) (sym (c.if-next-self.false ∙ are.number)) held)

pub returns-then-not-is_over : goal.returns-then-not-is_over
returns-then-not-is_over c = λ g moments current held.
    let are = subst (ArePrograms g moments current) (sym c.self.view_is) held in
    let alive : over_at g moments current ≡ false = sym (board_says g moments current _ c.is_over.result are c.is_over.ensures.moment) ∙ c.if-not-is_over.true in
    settled_same g moments current c.args.self.now alive held
