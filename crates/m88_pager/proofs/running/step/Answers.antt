-- The event, and the transactions that are done by it.
use Rattle.std.specs.Prelude.{ℕ, List, ◌-◌}
use Rattle.std.proofs.Common.{arith, length-take, ap, subst, ◌∙◌}
use Rattle.std.proofs.lemmas.Result.{on_ok_weaker}
use Rattle.m88_isa.specs.Triples.{triples_of}
use Rattle.m88_isa.specs.declared.planned.Access.{Access}
use Rattle.m88_mem.specs.DataBus.{image_bytes}
use Rattle.m88_pager.proofs.Walking.{done_shown}
use Rattle.m88_pager.specs.Inside.Calls.{AreCarriedOn}
use Rattle.m88_pager.specs.Inside.Seen.{AreWithin}
use Rattle.m88_pager.proofs.running.step.Goals as goal

pub overflow_sub-count : goal.overflow_sub-count
overflow_sub-count g c =
    let done = done_shown _ c.board-board.ensures c.board.ensures c.events.ensures.kept
    (c.triples-words.ensures.value ∙ ap triples_of c.dunit.ensures.value) c.done-before.ensures.value c.done.ensures.value c.requires.there
    (λ r m at. (c.in_ok-next.ensures.goes.ok r m at).at) in
    done.low

pub slice_bounds-words-end : goal.slice_bounds-words-end
slice_bounds-words-end g c =
    let done = done_shown _ c.board-board.ensures c.board.ensures c.events.ensures.kept
    (c.triples-words.ensures.value ∙ ap triples_of c.dunit.ensures.value) c.done-before.ensures.value c.done.ensures.value c.requires.there
    (λ r m at. (c.in_ok-next.ensures.goes.ok r m at).at) in
    let few = done.few in
    omega (arith, few)

pub slice_bounds-carry_all-end : goal.slice_bounds-carry_all-end
slice_bounds-carry_all-end g c =
    let done = done_shown _ c.board-board.ensures c.board.ensures c.events.ensures.kept
    (c.triples-words.ensures.value ∙ ap triples_of c.dunit.ensures.value) c.done-before.ensures.value c.done.ensures.value c.requires.there
    (λ r m at. (c.in_ok-next.ensures.goes.ok r m at).at) in
    let few = done.few in
    let most = done.most in
    let taken = length-take (c.done.result - c.done-before.result) c.triples-words.result in
    omega (arith, few, most, taken)

pub carry_all-requires-clause-made : goal.carry_all-requires-clause-made
carry_all-requires-clause-made g c =
    let done = done_shown _ c.board-board.ensures c.board.ensures c.events.ensures.kept
    (c.triples-words.ensures.value ∙ ap triples_of c.dunit.ensures.value) c.done-before.ensures.value c.done.ensures.value c.requires.there
    (λ r m at. (c.in_ok-next.ensures.goes.ok r m at).at) in
    done.made

pub returns-clause-stepped : goal.returns-clause-stepped
returns-clause-stepped g c =
    let done = done_shown _ c.board-board.ensures c.board.ensures c.events.ensures.kept
    (c.triples-words.ensures.value ∙ ap triples_of c.dunit.ensures.value) c.done-before.ensures.value c.done.ensures.value c.requires.there
    (λ r m at. (c.in_ok-next.ensures.goes.ok r m at).at) in
    let walk = c.args.walk.now in
    on_ok_weaker c.carry_all.result
    (λ on.
    let carried = subst (λ (xs : List Access). AreCarriedOn (image_bytes c.args.image.now) xs c.args.paging.now c.carry_all.new.self
    (g.P.PageStore.pages c.args.store.now) (g.P.PageStore.pages c.carry_all.new.store)) done.told on in
    record {
      at = λ r m at. (c.in_ok-next.ensures.goes.ok r m at).at;
      taken = c.in_ok-next.ensures.goes.takes.taken;
      lighter = c.in_ok-next.ensures.goes.takes.lighter;
      stays = c.in_ok-next.ensures.goes.takes.stays;
      within = subst (λ (n : ℕ). AreWithin n c.carry_all.new.self) done.long (carried.within walk.board.now.done c.requires.within);
      carried = carried;
    })
    c.carry_all.ensures.carried
