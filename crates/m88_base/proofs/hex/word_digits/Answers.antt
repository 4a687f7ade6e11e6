-- Each of the four bytes has two of the digits.
use Rattle.std.proofs.Common.{arith, refl, ◌≡◌, ◌%◌, ◌/◌}
use Rattle.m88_base.proofs.hex.word_digits.Goals as goal

pub returns : goal.returns
returns c =
    let n = c.args.n in
    let a : n / 16777216 % 256 / 16 % 16 ≡ n / 268435456 % 16 = omega arith in
    let b : n / 16777216 % 256 / 1 % 16 ≡ n / 16777216 % 16 = omega arith in
    let d : n / 65536 % 256 / 16 % 16 ≡ n / 1048576 % 16 = omega arith in
    let e : n / 65536 % 256 / 1 % 16 ≡ n / 65536 % 16 = omega arith in
    let f : n / 256 % 256 / 16 % 16 ≡ n / 4096 % 16 = omega arith in
    let g : n / 256 % 256 / 1 % 16 ≡ n / 256 % 16 = omega arith in
    let h : n % 256 / 16 % 16 ≡ n / 16 % 16 = omega arith in
    let i : n % 256 / 1 % 16 ≡ n / 1 % 16 = omega arith in
    rw (
      c.byte_digits.ensures,
      c.byte_digits-2.ensures,
      c.byte_digits-3.ensures,
      c.byte_digits-4.ensures,
      c.to_be_bytes.ensures,
      a,
      b,
      d,
      e,
      f,
      g,
      h,
      i,
    ) refl
