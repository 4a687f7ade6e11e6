-- One module more: its object, that it is sound, and the faults that are still to come.
use Rattle.std.proofs.Common.{ℕ, ◌≡◌, ◌<◌, ◌≤◌, ◌+◌, ◌∙◌, List, [], ◌∷◌, ◌++◌, ap, ap₂, arith, drop, drop_of_length-le, get_or, inl, inr, length, map, rules, subst, sym, take, take_all}
use Rattle.std.specs.Option.{option_or}
use Rattle.std.proofs.lemmas.Iterator.Adapters.{YieldsList-from_vec}
use Rattle.std.proofs.lemmas.Iterator.Consumers.{YieldsList-end, YieldsList-turn}
use Rattle.std.proofs.lemmas.List.{length_push, map_push, take_more}
use Rattle.std.proofs.lemmas.List.Elements.{All-get_or, All-push}
use Rattle.m88_parse.specs.WellFormed.{IsFormedModule}
use Rattle.m88_parse.specs.declared.unit.Module.{Module}
use Rattle.m88_link.specs.Sound.{IsSound}
use Rattle.m88_link.specs.declared.object.Object.{Object}
use Rattle.m88_asm.specs.Faults.{modules_fault}
use Rattle.m88_asm.specs.Objects.{object_of}
use Rattle.m88_asm.proofs.Resting.{next_of}
use Rattle.m88_asm.proofs.objects.consume_unit.Goals as goal

-- which module comes next, in the list of them as the unit has it
turned : {xs ys : List Module} {i : ℕ} {m : Module} → xs ≡ ys → (i < length xs) × (m ≡ get_or xs i m) → (i < length ys) × (m ≡ get_or ys i m)
turned {xs} {ys} {i} {m} e t = subst (λ (zs : List Module). (i < length zs) × (m ≡ get_or zs i m)) e t

pub consume_module-requires-clause-formed : goal.consume_module-requires-clause-formed
consume_module-requires-clause-formed c =
    let ms = c.args.unit.modules in
    let part = c.in-Some.part in
    let t = turned c.into_items-part-items.ensures (
    YieldsList-turn (YieldsList-from_vec {s = c.into_iter-part-iterator.result} c.into_items-part-items.result.items (search rules) (search rules))
    c.loop-part.yielded c.loop-part.part-iterator c.loop-part.yielded_by c.next.result c.next.new.self part c.in-Some.is c.next.ensures.steps) in
    subst IsFormedModule (sym t.1) (All-get_or IsFormedModule ms (length c.loop-part.yielded) part t.0 c.requires.each)

pub returns-in-Err : goal.returns-in-Err
returns-in-Err c =
    let ms = c.args.unit.modules in
    let part = c.in-Some.part in
    let i = length c.loop-part.yielded in
    let t = turned c.into_items-part-items.ensures (
    YieldsList-turn (YieldsList-from_vec {s = c.into_iter-part-iterator.result} c.into_items-part-items.result.items (search rules) (search rules))
    c.loop-part.yielded c.loop-part.part-iterator c.loop-part.yielded_by c.next.result c.next.new.self part c.in-Some.is c.next.ensures.steps) in
    record {
      right = tt;
      clean = tt;
      fault = elim c.in-Err.ensures.fault [
        | inl e ↦ inl e
        | inr e ↦ inr (
            sym c.loop-part.invariant.faults ∙ ap modules_fault (next_of ms i part part t.0 t.1)
            ∙ ap (λ f. option_or f (modules_fault (drop (i + 1) ms))) e
            )
      ];
    }

pub loop-part-preserved : goal.loop-part-preserved
loop-part-preserved c =
    let ms = c.args.unit.modules in
    let part = c.in-Some.part in
    let i = length c.loop-part.yielded in
    let t = turned c.into_items-part-items.ensures (
    YieldsList-turn (YieldsList-from_vec {s = c.into_iter-part-iterator.result} c.into_items-part-items.result.items (search rules) (search rules))
    c.loop-part.yielded c.loop-part.part-iterator c.loop-part.yielded_by c.next.result c.next.new.self part c.in-Some.is c.next.ensures.steps) in
    let items = c.in_ok-push-in-Ok.ensures.items in
    let more = length_push c.loop-part.yielded part in
    record {
      made =
          items
          ∙ ap₂ (λ (os : List Object) (o : Object). os ++ o ∷ []) c.loop-part.invariant.made (c.in-Ok.ensures.right.0 ∙ ap object_of t.1)
          ∙ sym (map_push object_of (take i ms) (get_or ms i part))
          ∙ ap (map object_of) (sym (take_more ms i part t.0))
          ∙ ap (λ (n : ℕ). map object_of (take n ms)) (sym more);
      sound = rw items (All-push IsSound _ _ c.loop-part.invariant.sound c.in-Ok.ensures.right.1);
      faults =
          ap (λ (n : ℕ). modules_fault (drop n ms)) more
          ∙ ap (λ f. option_or f (modules_fault (drop (i + 1) ms))) (sym c.in-Ok.ensures.clean)
          ∙ ap modules_fault (sym (next_of ms i part part t.0 t.1))
          ∙ c.loop-part.invariant.faults;
    }

pub returns : goal.returns
returns c =
    let ms = c.args.unit.modules in
    let end = YieldsList-end (YieldsList-from_vec {s = c.into_iter-part-iterator.result} c.into_items-part-items.result.items (search rules) (search rules))
    c.loop-part.yielded c.loop-part.part-iterator c.loop-part.yielded_by c.next.result c.next.new.self c.in-None.is c.next.ensures.steps in
    let all : length ms ≤ length c.loop-part.yielded = omega (arith, end.1, ap length c.into_items-part-items.ensures) in
    record {
      right = (c.loop-part.invariant.made ∙ ap (map object_of) (take_all (length c.loop-part.yielded) ms all), c.loop-part.invariant.sound);
      clean = sym c.loop-part.invariant.faults ∙ ap modules_fault (drop_of_length-le ms all);
      fault = tt;
    }
