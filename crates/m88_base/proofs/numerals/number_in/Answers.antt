-- One more digit makes the value its digits write; a value that is too great stays so.
use Rattle.std.proofs.Common.{◌≡◌, ◌<◌, ◌+◌, ◌*◌, ◌∙◌, ap, get_or, take, arith}
use Rattle.std.specs.Char.{digit_value, is_digit}
use Rattle.std.specs.Str.Parse.{digits_value}
use Rattle.std.proofs.lemmas.Bool.Decides.{nat_tests}
use Rattle.std.proofs.lemmas.Int.Digits.{digits_value_more}
use Rattle.std.proofs.lemmas.List.Folds.{list_all_more}
use Rattle.m88_base.proofs.Digits.{front_too_great}
use Rattle.m88_base.proofs.numerals.number_in.Goals as goal

pub returns-then-value-most-clause-value : goal.returns-then-value-most-clause-value
returns-then-value-most-clause-value c =
    let more = digits_value_more c.args.base c.args.text.now c.loop-byte.byte-index c.loop-byte-test.true in
    let digit : c.in-Some.digit ≡ digit_value (get_or c.args.text.now c.loop-byte.byte-index 0) =
    c.in-Some.ensures.value.1 ∙ ap digit_value c.from.ensures in
    let value : digits_value c.args.base (take (c.loop-byte.byte-index + 1) c.args.text.now) ≡ c.loop-byte.value * c.args.base + c.in-Some.digit =
    rw (more, c.loop-byte.invariant.value, digit) in
    front_too_great c.args.base c.args.most (c.loop-byte.byte-index + 1) c.args.text.now (omega arith)
    (rw value c.if-value-most.true)

pub loop-byte-preserved : goal.loop-byte-preserved
loop-byte-preserved c =
    let more = digits_value_more c.args.base c.args.text.now c.loop-byte.byte-index c.loop-byte-test.true in
    let digit : c.in-Some.digit ≡ digit_value (get_or c.args.text.now c.loop-byte.byte-index 0) =
    c.in-Some.ensures.value.1 ∙ ap digit_value c.from.ensures in
    let below : digit_value (get_or c.args.text.now c.loop-byte.byte-index 0) < c.args.base =
    rw c.from.ensures at c.in-Some.ensures.value.0 in
    record {
      digits = rw (list_all_more (λ b. is_digit b c.args.base) c.args.text.now c.loop-byte.byte-index 0 c.loop-byte-test.true, c.loop-byte.invariant.digits)
          (grind (arith, nat_tests));
      value = rw (more, c.loop-byte.invariant.value, digit);
      small = c.if-value-most.false;
    }
