-- The next four draws make the next statement.
use Rattle.std.proofs.Common.{ap, sym, ◌∙◌}
use Rattle.m88_commands.specs.Inside.Drawing.{after_four}
use Rattle.m88_commands.proofs.Drawing.{appends_statement, four_draws, no_source, seed_first}
use Rattle.m88_commands.proofs.commands.workload.Draws.source.Goals as goal

pub loop-init : goal.loop-init
loop-init c = record {
  seed = sym (seed_first c.args.self.now.seed);
  so_far = c.new-source.ensures.items ∙ sym (no_source c.args.self.now.seed);
}

pub loop-preserved : goal.loop-preserved
loop-preserved c = record {
  seed =
      c.statement-statement.ensures.seed ∙ ap after_four c.loop.invariant.seed
      ∙ sym (four_draws c.args.self.now.seed c.loop.counter);
  so_far =
      appends_statement c.args.self.now.seed c.loop.counter _ c.statement-statement.result _ _ c.loop.invariant.seed
      c.statement-statement.ensures.value c.loop.invariant.so_far c.in_ok-push_statement.ensures;
}
