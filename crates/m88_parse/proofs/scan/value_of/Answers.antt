-- One digit more: all are digits still, and the value is capped at 2 ^ 32 before or after it, to the same number.
use Rattle.std.proofs.Common.{ℕ, ◌∙◌, ap, sym, min, ◌*◌, ◌+◌, take, get_or, arith}
use Rattle.std.specs.Prelude.{nat_lt}
use Rattle.std.specs.Char.{digit_value}
use Rattle.std.specs.Str.Parse.{digits_value}
use Rattle.std.proofs.lemmas.Bool.Decides.{nat_tests}
use Rattle.std.proofs.lemmas.Int.Digits.{digits_value_more}
use Rattle.std.proofs.lemmas.List.Folds.{list_all_more}
use Rattle.m88_parse.proofs.Saturating.{capped}
use Rattle.m88_parse.proofs.scan.value_of.Goals as goal

pub loop-d-preserved : goal.loop-d-preserved
loop-d-preserved c =
    let i = c.loop-d.d-index in
    let v = digits_value c.args.base (take i c.args.digits.now) in
    let d = digit_value (get_or c.args.digits.now i 0) in
    let more = list_all_more (λ b. nat_lt (digit_value b) c.args.base) c.args.digits.now i 0 c.loop-d-test.true in
    record {
      digits = rw (more, c.loop-d.invariant.digits) (grind (arith, nat_tests));
      value = c.min-value.ensures
          ∙ ap (λ (n : ℕ). min (n * c.args.base + c.from-digit.result) 4294967296) c.loop-d.invariant.value
          ∙ ap (λ (n : ℕ). min (min v 4294967296 * c.args.base + n) 4294967296) (c.from-digit.ensures ∙ c.digit_value.ensures)
          ∙ capped v c.args.base d 4294967296 c.requires.least
          ∙ ap (λ (n : ℕ). min n 4294967296) (sym (digits_value_more c.args.base c.args.digits.now i c.loop-d-test.true));
    }
