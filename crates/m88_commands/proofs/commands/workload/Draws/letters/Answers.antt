-- The next draw makes the next letter.
use Rattle.std.proofs.Common.{ℕ, List, [], ◌∷◌, ◌++◌, ap, sym, ◌∙◌}
use Rattle.std.specs.Prelude.{string_bytes}
use Rattle.m88_commands.specs.Answer.Workload.{next_seed}
use Rattle.m88_commands.proofs.Drawing.{appends_letter, no_letters, seed_first, seed_next}
use Rattle.m88_commands.proofs.commands.workload.Draws.letters.Goals as goal

pub loop-init : goal.loop-init
loop-init c = record {
  seed = sym (seed_first c.args.self.now.seed);
  so_far = c.new-letters.ensures.bytes ∙ sym (no_letters c.args.self.now.seed);
}

pub loop-preserved : goal.loop-preserved
loop-preserved c = record {
  seed =
      c.draw.ensures.seed ∙ ap next_seed c.loop.invariant.seed ∙ sym (seed_next c.args.self.now.seed c.loop.counter);
  so_far =
      appends_letter c.args.self.now.seed c.loop.counter _ c.draw.result _ _ c.loop.invariant.seed
      c.draw.ensures.value c.loop.invariant.so_far
      (c.in_ok-push.ensures.bytes
      ∙ ap (λ (t : List ℕ). string_bytes c.loop.letters ++ t) (c.in_ok-push.ensures.ascii c.letter_of.ensures.ascii)
      ∙ ap (λ (x : ℕ). string_bytes c.loop.letters ++ x ∷ []) c.letter_of.ensures.value);
}
