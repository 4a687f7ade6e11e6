use Rattle.std.proofs.Common.{◌≡◌, ◌∙◌, ◌+◌, ◌<◌, ◌≤◌, [], ap, get_or, length, set, arith, rules}
use Rattle.std.proofs.lemmas.Grind.{common_steps}
use Rattle.std.specs.Prelude.{insert}
use Rattle.std.proofs.lemmas.List.Edits.{length-insert}
use Rattle.std.proofs.lemmas.List.Elements.{All-set}
use Rattle.m88_base.specs.Inside.Blocks.{AreNonempty, IsPlaceInBlocks, all_runs}
use Rattle.m88_base.proofs.InBlocks.{block_length, insert_at}
use Rattle.m88_base.proofs.blocks.Blocks.insert.Goals.{In_ok-insert, After-count}
use Rattle.m88_base.proofs.blocks.Blocks.insert.Goals as goal

place : (c : In_ok-insert) → IsPlaceInBlocks c.self.inside.blocks.items c.place_before-at.result.0 c.place_before-at.result.1 c.args.index
place c = rw (← c.self.view_is) at c.place_before-at.ensures

changed : (c : In_ok-insert) → all_runs (set c.self.inside.blocks.items c.place_before-at.result.0 c.insert.new.self) ≡ insert (all_runs c.self.inside.blocks.items) c.args.index c.args.run
changed c =
    rw c.in_ok-insert.ensures.ok
    (insert_at c.self.inside.blocks.items c.place_before-at.result.0 c.place_before-at.result.1 c.args.index c.index_mut-block.result.now c.args.run
    (place c) c.index_mut-block.ensures.value)

more : (c : In_ok-insert) → length (all_runs (set c.self.inside.blocks.items c.place_before-at.result.0 c.insert.new.self)) ≡ length (all_runs c.self.inside.blocks.items) + 1
more c =
    let index : c.args.index ≤ length (all_runs c.self.inside.blocks.items) = rw (← c.self.view_is) at c.requires in
    omega (arith, ap length (changed c), length-insert (all_runs c.self.inside.blocks.items) c.args.index c.args.run index)

nonempty : (c : In_ok-insert) → AreNonempty (set c.self.inside.blocks.items c.place_before-at.result.0 c.insert.new.self)
nonempty c =
    let bs = c.self.inside.blocks.items in
    let b = c.place_before-at.result.0 in
    let block : get_or bs b [] ≡ c.index_mut-block.result.now = block_length bs b c.index_mut-block.result.now (place c).within c.index_mut-block.ensures.value in
    let inside : c.place_before-at.result.1 ≤ length c.index_mut-block.result.now = rw block at (place c).room in
    let some : 0 < length c.insert.new.self =
    omega (arith, ap length c.in_ok-insert.ensures.ok, length-insert c.index_mut-block.result.now c.place_before-at.result.1 c.args.run inside) in
    All-set (λ runs. 0 < length runs) bs b c.insert.new.self some c.self.invariant.1

len : (c : In_ok-insert) → c.in_ok-len.len ≡ length (all_runs (set c.self.inside.blocks.items c.place_before-at.result.0 c.insert.new.self))
len c =
    let next : c.in_ok-len.len ≡ c.self.inside.len + 1 = grind (arith, common_steps) in
    omega (arith, next, more c, c.self.invariant.0)

pub count-requires : goal.count-requires
count-requires c =
    let all : c.in_ok-len.len ≡ length (all_runs (set c.self.inside.blocks.items c.place_before-at.result.0 c.insert.new.self)) =
    len ((goal.at.count-requires c).In_ok-insert) in
    record {
      long = search rules;
      within = search rules;
      counted = grind (arith, common_steps);
      room = rw c.deref.ensures.value (omega (arith, all));
    }

pub invariant_of-self-then-long : goal.invariant_of-self-then-long
invariant_of-self-then-long c =
    let k = (goal.at.invariant_of-self-then-long c).In_ok-insert in (len k, nonempty k, grind (arith, common_steps))

pub invariant_of-self-else-long : goal.invariant_of-self-else-long
invariant_of-self-else-long c =
    let k = (goal.at.invariant_of-self-else-long c).In_ok-insert in (len k, nonempty k, grind (arith, common_steps))

pub returns-then-long-clause-ok : goal.returns-then-long-clause-ok
returns-then-long-clause-ok c = rw (← c.self.view_is) (c.split.ensures ∙ changed ((goal.at.returns-then-long-clause-ok c).In_ok-insert))

pub returns-else-long-clause-ok : goal.returns-else-long-clause-ok
returns-else-long-clause-ok c = rw (← c.self.view_is) (changed ((goal.at.returns-else-long-clause-ok c).In_ok-insert))
