-- The letter `t`: held, alone, or a switch.
use Rattle.std.proofs.Common.{rules, ℕ, [], ◌∷◌, ◌++◌, ◌≡◌, ◌∙◌, ap, arith, refl, sym, subst}
use Rattle.std.specs.Prelude.{◌≢◌}
use Rattle.m88_tasks.proofs.Settling.{next_inside}
use Rattle.m88_tasks.proofs.Turning.{alone, held, none_pending, same_switch, switched, taken_turn}
use Rattle.m88_tasks.specs.Shared.{next_from, own_run, switch_at}
use Rattle.m88_tasks.specs.Tasks.{ArePrograms, ProgramsView}
use Rattle.m88_tasks.specs.declared.shared.Switch.{Switch}
use Rattle.m88_tasks.specs.declared.turned.Turned.TheVariants as turned
use Rattle.m88_tasks.proofs.programs.Programs.turn.Goals as goal

pub returns-then-pending-gt0-clause-taken : goal.returns-then-pending-gt0-clause-taken
returns-then-pending-gt0-clause-taken c = λ g s was alive number joined.
    let are = subst (ArePrograms g s.moments s.current) (sym c.self.view_is) was in
    taken_turn g s (turned.Held c.pending-pending.result) c.args.self.now c.args.switches.now.items
    (held g s c.pending-pending.result _ are c.pending-pending.ensures.value
    (c.pending-pending.ensures.moment (own_run g s.current) (s.moments s.current) are.board) c.if-pending-gt0.true)
    was joined

pub returns-then-next-self-clause-taken : goal.returns-then-next-self-clause-taken
returns-then-next-self-clause-taken c = λ g s was alive number joined.
    let are = subst (ArePrograms g s.moments s.current) (sym c.self.view_is) was in
    taken_turn g s turned.Alone c.args.self.now c.args.switches.now.items
    (alone g s _ are (none_pending c.self.inside.board.pending c.pending-pending.result c.pending-pending.ensures.value c.if-pending-gt0.false)
    (sym (c.next-next.ensures g s.moments s.current was) ∙ c.if-next-self.true ∙ are.number))
    was joined

pub switch_of-switch-requires : goal.switch_of-switch-requires
switch_of-switch-requires c =
    let some = c.self.invariant in
    let are = subst (ArePrograms some.group some.moments some.current) c.self.view_is some.are in
    let inside = next_inside some.group some.moments some.current c.next-next.result c.args.self.now are
    (c.next-next.ensures some.group some.moments some.current are) in
    let count = are.count in
    let few = are.few in
    let number = some.are.number in
    let here = some.are.here in
    record { from_few = omega (arith, number, here, few); to_few = omega (arith, inside, count, few) }

pub exchange-requires : goal.exchange-requires
exchange-requires c =
    let some = c.self.invariant in
    let are = subst (ArePrograms some.group some.moments some.current) c.self.view_is some.are in
    record {
      inside = next_inside some.group some.moments some.current c.next-next.result c.args.self.now are
          (c.next-next.ensures some.group some.moments some.current are);
      other = subst (λ (v : ProgramsView). c.next-next.result ≢ v.current) c.self.view_is c.if-next-self.false;
      empty = subst (λ (v : ProgramsView). v.board.pending ≡ []) c.self.view_is
          (none_pending c.self.inside.board.pending c.pending-pending.result c.pending-pending.ensures.value c.if-pending-gt0.false);
    }

pub returns-clause-taken : goal.returns-clause-taken
returns-clause-taken c = λ g s was alive number joined.
    let are = subst (ArePrograms g s.moments s.current) (sym c.self.view_is) was in
    let next : c.next-next.result ≡ next_from g s.moments s.current = c.next-next.ensures g s.moments s.current was in
    let same : c.switch_of-switch.result ≡ switch_at g s =
    c.switch_of-switch.ensures
    ∙ same_switch g s (record { board = c.self.inside.board; contexts = c.self.inside.contexts.items; current = c.self.inside.current })
    c.args.event c.self.inside.current c.next-next.result c.pipe.result are number refl next
    (c.pipe.ensures.moment (own_run g s.current) (s.moments s.current) are.board) in
    let to : c.switch_of-switch.result.to ≡ c.next-next.result = ap (λ (x : Switch). x.to) c.switch_of-switch.ensures in
    let more : c.push.new.self.items ≡ c.args.switches.now.items ++ (c.switch_of-switch.result ∷ []) = search rules in
    taken_turn g s (turned.Switched c.switch_of-switch.result) c.exchange.new.self c.push.new.self.items
    (ap (λ (x : Switch). turned.Switched x) same
    ∙ switched g s _ are (none_pending c.self.inside.board.pending c.pending-pending.result c.pending-pending.ensures.value c.if-pending-gt0.false)
    (λ e. c.if-next-self.false (next ∙ e ∙ sym are.number)))
    (subst (λ (n : ℕ). ArePrograms g s.moments n c.exchange.new.self) (sym to) (c.exchange.ensures g s.moments s.current was))
    (more ∙ ap (λ xs. xs ++ (c.switch_of-switch.result ∷ [])) joined)
