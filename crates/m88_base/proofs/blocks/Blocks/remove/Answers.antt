use Rattle.std.proofs.Common.{◌≡◌, ◌∙◌, ◌+◌, ◌-◌, ◌<◌, refl, length, set, arith, rules}
use Rattle.std.proofs.lemmas.Grind.{common_steps}
use Rattle.std.specs.Prelude.{remove}
use Rattle.std.proofs.lemmas.List.Edits.{length-remove}
use Rattle.m88_base.specs.Inside.Blocks.{IsRunInBlocks, all_runs}
use Rattle.m88_base.proofs.InBlocks.{emptied, remove_at}
use Rattle.m88_base.proofs.blocks.Blocks.remove.Goals.{After-deref_mut, then-len-eq0, else-len-eq0}
use Rattle.m88_base.proofs.blocks.Blocks.remove.Goals as goal

place : (c : After-deref_mut) → IsRunInBlocks c.self.inside.blocks.items c.place_of-at.result.0 c.place_of-at.result.1 c.args.index
place c = rw (← c.self.view_is) at c.place_of-at.ensures

changed : (c : After-deref_mut) → all_runs (set c.self.inside.blocks.items c.place_of-at.result.0 c.remove.new.self) ≡ remove (all_runs c.self.inside.blocks.items) c.args.index
changed c =
    rw c.remove.ensures
    (remove_at c.self.inside.blocks.items c.place_of-at.result.0 c.place_of-at.result.1 c.args.index c.index_mut-block.result.now (place c)
    c.index_mut-block.ensures.value)

removed : (c : After-deref_mut) → all_runs c.if-len-eq0.self-inside.blocks.items ≡ remove (all_runs c.self.inside.blocks.items) c.args.index
removed c = elim c.if-len-eq0.branch [
  | then-len-eq0 w ↦
      rw (w.self-inside-is, w.remove-then-len-eq0.ensures.items)
      (emptied c.self.inside.blocks.items c.place_of-at.result.0 c.remove.new.self (place c).place.within (rw (← c.len.ensures) w.if-len-eq0.true) ∙ changed c)
  | else-len-eq0 w ↦ rw w.self-inside-is (changed c)
]

fewer : (c : After-deref_mut) → length (all_runs c.if-len-eq0.self-inside.blocks.items) + 1 ≡ c.self.inside.len
fewer c =
    let index : c.args.index < length (all_runs c.self.inside.blocks.items) = rw (← c.self.view_is) at c.requires in
    rw (removed c, c.self.invariant.0) (length-remove (all_runs c.self.inside.blocks.items) c.args.index index)

len : (c : After-deref_mut) → c.if-len-eq0.self-inside.len - 1 ≡ length (all_runs c.if-len-eq0.self-inside.blocks.items)
len c =
    let same : c.if-len-eq0.self-inside.len ≡ c.self.inside.len = elim c.if-len-eq0.branch [
      | then-len-eq0 w ↦ rw w.self-inside-is refl
      | else-len-eq0 w ↦ rw w.self-inside-is refl
    ] in
    omega (arith, fewer c, same)

pub count-requires : goal.count-requires
count-requires c =
    let few : length (all_runs c.if-len-eq0.self-inside.blocks.items) + 1 ≡ c.self.inside.len = fewer ((goal.at.count-requires c).After-deref_mut) in
    record {
      long = search rules;
      within = search rules;
      counted = grind (arith, common_steps);
      room = rw c.deref.ensures.value (omega (arith, few));
    }

pub invariant_of-self : goal.invariant_of-self
invariant_of-self c = (len ((goal.at.invariant_of-self c).After-deref_mut), search rules, grind (arith, common_steps))

pub returns : goal.returns
returns c = rw (← c.self.view_is) (removed ((goal.at.returns c).After-deref_mut))
