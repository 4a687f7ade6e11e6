-- The parts stand behind one another.
use Rattle.std.proofs.Common.{arith, refl, ◌≡◌, ◌%◌}
use Rattle.m88_trace.specs.Lines.{access_head}
use Rattle.m88_trace.proofs.parts.open_access.Goals as goal

pub returns : goal.returns
unfolding access_head
returns c =
    let small : c.args.access.now.en % 16 ≡ c.args.access.now.en = omega arith in
    rw (c.word_digits.ensures, c.last_digit-en.ensures, c.from.ensures, small, ← c.kind_of-kind.ensures) refl
