-- Where the last digit is below 9 it is one more.
use Rattle.std.proofs.Common.{◌≡◌, ◌+◌, ◌<◌, ◌%◌, ◌^◌, ◌∙◌, get_or, sym, arith}
use Rattle.m88_base.specs.Lines.{line_end}
use Rattle.m88_listing.specs.Columns.{blanks}
use Rattle.m88_listing.proofs.NextNumber.{counted, digit_at, head_is}
use Rattle.m88_listing.proofs.column.Column.count_on.Goals as goal

pub invariant_of-self : goal.invariant_of-self
invariant_of-self c =
    let n = c.self.inside.number in
    let digit = get_or c.self.inside.alone 6 0 in
    let small : n + 1 < 10 ^ 7 = rw (← c.self.view_is) at c.requires in
    let last : digit ≡ 48 + n % 10 = digit_at c.self.inside.alone line_end n c.self.invariant.0 c.self.invariant.1 in
    let below : digit < 57 = omega (arith, c.if-self-lt57.true) in (
      small,
      counted c.self.inside.alone line_end n digit small last below c.self.invariant.1,
      counted c.self.inside.head (blanks 33) n digit small last below (c.self.invariant.2 ∙ sym (head_is n)) ∙ head_is (n + 1),
    )
