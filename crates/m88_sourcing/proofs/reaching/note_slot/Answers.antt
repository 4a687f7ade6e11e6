-- The word of the slot was noted, where an instruction stands there.
use Rattle.std.proofs.Common.{ℕ, inl, inr, subst, sym}
use Rattle.m88_sourcing.specs.Code.{HasInstruction}
use Rattle.m88_sourcing.proofs.reaching.note_slot.Goals as goal

pub returns-in_ok-note_word-clause-code : goal.returns-in_ok-note_word-clause-code
returns-in_ok-note_word-clause-code c = λ a. (
  λ there.
      elim ((c.in_ok-note_word.ensures.code a).0 there) [
        | inl was ↦ inl was
        | inr same ↦
            inr (
              same,
              subst (λ (n : ℕ). HasInstruction c.args.image.now n) (sym same) (c.in-Some.instr, c.in-Some.ensures.some),
            )
      ],
  λ h.
      elim h [
        | inl was ↦ (c.in_ok-note_word.ensures.code a).1 (inl was)
        | inr now ↦ (c.in_ok-note_word.ensures.code a).1 (inr now.0)
      ],
)
