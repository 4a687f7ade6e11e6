-- The digits are those of the number.
use Rattle.std.proofs.Common.{◌∙◌}
use Rattle.m88_session.proofs.Numerals.{short_found, short_told}
use Rattle.m88_session.proofs.numbers.short_number.Goals as goal

pub returns-then-text-most_digits : goal.returns-then-text-most_digits
returns-then-text-most_digits c = record {
  found = short_found c.args.base c.args.most_digits c.args.most c.args.text.now c.number_in.result c.if-text-most_digits.true
      c.number_in.ensures.value;
  bound = c.number_in.ensures.bound;
  only = λ n below is.
      c.number_in.ensures.value ∙ short_told c.args.base c.args.most_digits c.args.most n c.args.text.now below is;
}
