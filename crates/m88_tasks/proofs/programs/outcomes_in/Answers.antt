-- One place after the other.
use Rattle.std.proofs.Common.{rules, ◌≡◌, ◌<◌, ◌∙◌, ◌∷◌, [], ◌++◌, ap, arith, length, refl, sym, subst, vec_len, Option}
use Rattle.std.specs.Prelude.{slice_set, ◌+◌}
use Rattle.m88_board.specs.declared.context.Context.{Context}
use Rattle.m88_tasks.proofs.Collecting.{Collected, collected_first, collected_next}
use Rattle.m88_tasks.proofs.Places.{taken_place}
use Rattle.m88_tasks.specs.Shared.{outcomes_of}
use Rattle.m88_tasks.proofs.programs.outcomes_in.Goals as goal

pub loop-q-init : goal.loop-q-init
loop-q-init c = collected_first c.args.contexts.items c.args.own c.new-outcomes.result.items c.new-outcomes.ensures.items

pub loop-q-preserved : goal.loop-q-preserved
loop-q-preserved c =
    let size = c.loop-q.invariant.size in
    let long : vec_len c.args.contexts ≡ length c.args.contexts.items = search rules in
    let inside : c.loop-q.q < length c.loop-q.contexts.items = omega (arith, size, long) in
    let more : c.push.new.self.items ≡ c.loop-q.outcomes.items ++ (c.in_ok-outcome.outcome ∷ []) = search rules in
    subst (λ (place : Option Context). Collected c.args.contexts.items c.args.own (slice_set c.loop-q.contexts.items c.loop-q.q place)
    c.outcome_of.new.own c.push.new.self.items (c.loop-q.q + 1)) (sym c.take.ensures.after)
    (collected_next c.args.contexts.items c.args.own c.in_ok-outcome.outcome c.loop-q.contexts.items c.loop-q.kept c.outcome_of.new.own
    c.loop-q.outcomes.items c.push.new.self.items c.loop-q.q c.take.result c.loop-q.invariant
    (taken_place c.loop-q.contexts.items c.loop-q.q c.index_mut.result.now c.take.result c.take.result inside c.index_mut.ensures.value c.take.ensures.value refl)
    inside c.in_ok-outcome.ensures.came c.in_ok-outcome.ensures.same more)

pub returns : goal.returns
returns c = λ g moments current are over here.
    let long : vec_len c.args.contexts ≡ length c.args.contexts.items = search rules in
    let all : c.loop-q.q ≡ length c.args.contexts.items = omega (arith, long) in
    c.loop-q.invariant.made g moments current are over here ∙ ap (outcomes_of g moments) all
