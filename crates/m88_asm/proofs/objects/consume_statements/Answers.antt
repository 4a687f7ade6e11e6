-- What there is, with the statements to come, is what all statements grow to.
use Rattle.std.proofs.Common.{arith, inl, inr, length, [], ap, refl, rules, subst, sym}
use Rattle.std.proofs.lemmas.Iterator.Adapters.{YieldsList-from_vec}
use Rattle.std.proofs.lemmas.Iterator.Consumers.{YieldsList-end, YieldsList-turn}
use Rattle.std.proofs.lemmas.List.{length_push}
use Rattle.std.proofs.lemmas.List.Elements.{All-get_or}
use Rattle.m88_parse.specs.WellFormed.{IsFormedStatement}
use Rattle.m88_asm.specs.Counters.{located}
use Rattle.m88_asm.specs.Faults.{statements_fault}
use Rattle.m88_asm.proofs.Assembling.{counters_empty}
use Rattle.m88_asm.proofs.Resting.{Rest, rest_ends, rest_goes_on, rest_stops}
use Rattle.m88_asm.proofs.objects.consume_statements.Goals as goal

pub loop-x-init : goal.loop-x-init
loop-x-init c =
    subst (Rest c.args.line c.args.statements.items 0) (sym c.in_ok-assembly.ensures)
    (record { whole = refl; faults = ap (λ k. statements_fault [] (located k c.args.statements.items)) (counters_empty c.args.line); opened = record { both = omega arith; stands = omega arith }; few = omega arith })

pub consume-requires-clause-formed : goal.consume-requires-clause-formed
consume-requires-clause-formed c =
    let all = c.args.statements.items in
    let x = c.in-Some.x in
    let t = YieldsList-turn (YieldsList-from_vec {s = c.into_iter-x-iterator.result} all (search rules) (search rules))
    c.loop-x.yielded c.loop-x.x-iterator c.loop-x.yielded_by c.next.result c.next.new.self x c.in-Some.is c.next.ensures.steps in
    subst IsFormedStatement (sym t.1) (All-get_or IsFormedStatement all (length c.loop-x.yielded) x t.0 c.requires.formed)

pub consume-requires-clause-few : goal.consume-requires-clause-few
consume-requires-clause-few c =
    let all = c.args.statements.items in
    let x = c.in-Some.x in
    let t = YieldsList-turn (YieldsList-from_vec {s = c.into_iter-x-iterator.result} all (search rules) (search rules))
    c.loop-x.yielded c.loop-x.x-iterator c.loop-x.yielded_by c.next.result c.next.new.self x c.in-Some.is c.next.ensures.steps in
    omega (arith, t.0, c.loop-x.invariant.few, c.requires.few)

pub returns-in-Err : goal.returns-in-Err
returns-in-Err c =
    let all = c.args.statements.items in
    let x = c.in-Some.x in
    let t = YieldsList-turn (YieldsList-from_vec {s = c.into_iter-x-iterator.result} all (search rules) (search rules))
    c.loop-x.yielded c.loop-x.x-iterator c.loop-x.yielded_by c.next.result c.next.new.self x c.in-Some.is c.next.ensures.steps in
    record {
      right = tt;
      clean = tt;
      fault = elim c.in-Err.ensures.fault [
        | inl e ↦ inl e
        | inr e ↦ inr (rest_stops c.args.line all (length c.loop-x.yielded) c.loop-x.assembly x x c.in-Err.fault t.0 t.1 c.loop-x.invariant e)
      ];
    }

pub loop-x-preserved : goal.loop-x-preserved
loop-x-preserved c =
    let all = c.args.statements.items in
    let x = c.in-Some.x in
    let t = YieldsList-turn (YieldsList-from_vec {s = c.into_iter-x-iterator.result} all (search rules) (search rules))
    c.loop-x.yielded c.loop-x.x-iterator c.loop-x.yielded_by c.next.result c.next.new.self x c.in-Some.is c.next.ensures.steps in
    subst (λ n. Rest c.args.line all n c.consume.new.self) (sym (length_push c.loop-x.yielded x))
    (rest_goes_on c.args.line all (length c.loop-x.yielded) c.loop-x.assembly c.consume.new.self x x t.0 t.1 c.loop-x.invariant c.in-Ok.ensures.right c.in-Ok.ensures.clean)

pub returns : goal.returns
returns c =
    let all = c.args.statements.items in
    let end = YieldsList-end (YieldsList-from_vec {s = c.into_iter-x-iterator.result} all (search rules) (search rules))
    c.loop-x.yielded c.loop-x.x-iterator c.loop-x.yielded_by c.next.result c.next.new.self c.in-None.is c.next.ensures.steps in
    let ends = rest_ends c.args.line all (length c.loop-x.yielded) c.loop-x.assembly (omega (arith, end.1)) c.loop-x.invariant in
    record { right = ends.0; clean = ends.1; fault = tt }
