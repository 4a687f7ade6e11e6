-- The instruction that stands there is the one that was given.
use Rattle.std.proofs.Common.{◌≡◌, ◌∙◌, ap, inl, inr}
use Rattle.m88_isa.specs.declared.instr.Instr.{Instr as Instruction}
use Rattle.m88_sourcing.specs.Flow.{branch_target, goes_on_to}
use Rattle.m88_sourcing.proofs.OneInstruction.{same_instruction}
use Rattle.m88_sourcing.proofs.reaching.next_of.Goals as goal

pub returns-then-is_exit-clause-has : goal.returns-then-is_exit-clause-has
returns-then-is_exit-clause-has c = λ b led. absurd (led.2 (c.is_exit.ensures.exit.0 c.if-is_exit.true))

pub returns-clause-has : goal.returns-clause-has
returns-clause-has c = λ b led.
    let same : c.args.instr.now ≡ led.0 = same_instruction c.args.image.now c.args.at c.args.instr.now led.0
    c.requires led.1 in
    elim led.3 [
      | inl h ↦ inr (c.goes_on_to.ensures ∙ ap (λ (k : Instruction). goes_on_to c.args.at k) same ∙ h)
      | inr h ↦ inl (ap (λ (k : Instruction). branch_target c.args.at k) same ∙ h)
    ]
