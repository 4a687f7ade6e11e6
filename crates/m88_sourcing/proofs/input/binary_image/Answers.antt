-- No byte is there before, so that too large is past the last address.
use Rattle.std.proofs.Common.{inl, inr, arith}
use Rattle.std.proofs.lemmas.Grind.{common_steps}
use Rattle.m88_sourcing.proofs.input.binary_image.Goals as goal

pub returns-in-Err-TooLarge : goal.returns-in-Err-TooLarge
returns-in-Err-TooLarge c = (
  elim (c.add.ensures.too_large.0 (let is = c.in-Err-TooLarge.is in let named = c.in-Err-TooLarge.field-0-is in cc)) [
    | inl past ↦ past
    | inr many ↦
        absurd (let none = c.new-image.ensures.len in let few = c.requires in omega (arith, many, none, few))
  ],
  grind (arith, common_steps),
)
