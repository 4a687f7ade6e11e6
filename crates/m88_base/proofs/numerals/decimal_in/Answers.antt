-- The text is that of its number's decimal digits.
use Rattle.std.proofs.Common.{◌≡◌, ◌∙◌, ap, sym, arith, true, false}
use Rattle.m88_base.specs.Numerals.{has_no_needless_zero, number_in}
use Rattle.m88_base.proofs.Digits.{decimal_found, decimal_needed, decimal_told}
use Rattle.m88_base.proofs.numerals.decimal_in.Goals as goal

clash : true ≡ false → ⊥
clash e = absurd cc

pub returns-then-has_no_needless_zero-clause-found : goal.returns-then-has_no_needless_zero-clause-found
returns-then-has_no_needless_zero-clause-found c =
    decimal_found c.args.most c.args.text.now c.number_in.result c.ranges.most.fits
    (sym c.has_no_needless_zero.ensures ∙ c.if-has_no_needless_zero.true) c.number_in.ensures.value

pub returns-then-has_no_needless_zero-clause-only : goal.returns-then-has_no_needless_zero-clause-only
returns-then-has_no_needless_zero-clause-only c = λ n below is.
    c.number_in.ensures.value ∙ ap (number_in 10 c.args.most) is ∙ decimal_told c.args.most n c.ranges.most.fits below

pub returns-else-has_no_needless_zero-clause-only : goal.returns-else-has_no_needless_zero-clause-only
returns-else-has_no_needless_zero-clause-only c = λ n below is.
    let needed = c.has_no_needless_zero.ensures ∙ ap has_no_needless_zero is ∙ decimal_needed n (omega (arith, c.ranges.most.fits)) in
    absurd (clash (sym needed ∙ c.if-has_no_needless_zero.false))
