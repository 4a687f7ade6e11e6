use Rattle.std.proofs.Common.{◌≡◌, [], ◌∷◌, ◌++◌, length, length-append, refl, arith}
use Rattle.std.proofs.lemmas.Grind.{common_steps}
use Rattle.m88_base.specs.Inside.Blocks.{all_runs}
use Rattle.m88_base.proofs.InBlocks.{all_runs-append, begun_at_end}
use Rattle.m88_base.proofs.Counting.{nonempty_end}
use Rattle.m88_base.proofs.blocks.Blocks.begin_block.Goals as goal

pub invariant_of-self-2 : goal.invariant_of-self-2
invariant_of-self-2 c =
    let bs = c.self.inside.blocks.items in
    let end : all_runs (bs ++ (c.args.run ∷ []) ∷ []) ≡ all_runs bs ++ c.args.run ∷ [] = all_runs-append bs ((c.args.run ∷ []) ∷ []) in (
      rw (c.in_ok-push.ensures.items, c.in_ok-block.ensures, end)
          (omega (arith, length-append (all_runs bs) (c.args.run ∷ []), rw (← c.self.view_is) at c.requires)),
      rw (c.in_ok-push.ensures.items, c.in_ok-block.ensures) (nonempty_end bs (c.args.run ∷ []) (omega arith) c.self.invariant.1),
      grind (arith, common_steps),
    )

pub returns-clause-ok : goal.returns-clause-ok
returns-clause-ok c =
    rw (← c.self.view_is, c.in_ok-push.ensures.items, c.in_ok-block.ensures)
    (begun_at_end c.self.inside.blocks.items (length (all_runs c.self.inside.blocks.items)) c.args.run refl)
