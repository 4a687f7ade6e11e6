use Rattle.std.proofs.Common.{◌≡◌, ◌+◌, ◌<◌, ◌∙◌, ◌/◌, refl, suc, [], ◌++◌, List, ap, sym, length, get_or, set, add-one, arith, rules, length-append}
use Rattle.std.proofs.lemmas.Grind.{common_steps}
use Rattle.std.specs.Prelude.{insert}
use Rattle.std.proofs.lemmas.List.Elements.{All-set}
use Rattle.m88_base.specs.Placed.{Placed}
use Rattle.m88_base.specs.Inside.Blocks.{AreNonempty, all_runs}
use Rattle.m88_base.proofs.InBlocks.{block_length, halved}
use Rattle.m88_base.proofs.Counting.{nonempty_with}
use Rattle.m88_base.proofs.blocks.Blocks.split.Goals.{In_ok-upper, After-push}
use Rattle.m88_base.proofs.blocks.Blocks.split.Goals as goal

within : (c : In_ok-upper) → c.args.at < length c.self.inside.blocks.items
within c = rw (← c.self.view_is) at c.requires.at

block : (c : In_ok-upper) → get_or c.self.inside.blocks.items c.args.at [] ≡ c.index_mut-block.result.now
block c =
    block_length c.self.inside.blocks.items c.args.at c.index_mut-block.result.now (within c)
    (rw (c.in_ok-reserve-2.ensures.items) at c.index_mut-block.ensures.value)

whole : (c : In_ok-upper) → c.split_off.new.self ++ c.in_ok-upper.upper ≡ get_or c.self.inside.blocks.items c.args.at []
whole c = c.in_ok-upper.ensures.ok ∙ sym (block c)

now : (c : After-push) → c.insert.new.self.items ≡ insert (set c.self.inside.blocks.items c.args.at c.split_off.new.self) (suc c.args.at) c.in_ok-upper.upper
now c = rw (c.insert.ensures.items, c.if-is_err.ensures.negation, c.in_ok-reserve-2.ensures.items, add-one) refl

same : (c : In_ok-upper) → all_runs (insert (set c.self.inside.blocks.items c.args.at c.split_off.new.self) (suc c.args.at) c.in_ok-upper.upper) ≡ all_runs c.self.inside.blocks.items
same c = halved c.self.inside.blocks.items c.args.at c.split_off.new.self c.in_ok-upper.upper (within c) (whole c)

nonempty : (c : In_ok-upper) → AreNonempty (insert (set c.self.inside.blocks.items c.args.at c.split_off.new.self) (suc c.args.at) c.in_ok-upper.upper)
nonempty c =
    let bs = c.self.inside.blocks.items in
    let lower : List Placed = c.split_off.new.self in
    let upper : List Placed = c.in_ok-upper.upper in
    let long : 1 < length (get_or bs c.args.at []) = rw (← c.self.view_is) at c.requires.long in
    let sum : length (get_or bs c.args.at []) ≡ length lower + length upper = omega (arith, ap length (whole c), length-append lower upper) in
    let half : length lower ≡ length (get_or bs c.args.at []) / 2 = rw (block c) c.in_ok-upper.ensures.len in
    nonempty_with (set bs c.args.at lower) (suc c.args.at) upper (omega (arith, half, sum, long))
    (All-set (λ runs. 0 < length runs) bs c.args.at lower (omega (arith, half, long)) c.self.invariant.1)

pub count-requires : goal.count-requires
count-requires c =
    let k = goal.at.count-requires c in
    record {
      long = search rules;
      within = search rules;
      counted = grind (arith, common_steps);
      room = rw (c.deref.ensures.value, now k.After-push, same k.In_ok-upper) (omega (arith, c.self.invariant.0));
    }

pub invariant_of-self-2 : goal.invariant_of-self-2
invariant_of-self-2 c =
    let k = goal.at.invariant_of-self-2 c in
    (rw (now k.After-push, same k.In_ok-upper) c.self.invariant.0, rw (now k.After-push) (nonempty k.In_ok-upper), grind (arith, common_steps))

pub returns : goal.returns
returns c = let k = goal.at.returns c in rw (← c.self.view_is, now k.After-push) (same k.In_ok-upper)
