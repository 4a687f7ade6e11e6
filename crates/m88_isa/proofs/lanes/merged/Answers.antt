-- A word with some of its bytes replaced is the sum of its four bytes.
use Rattle.std.specs.Prelude.{ℕ, ◌≡◌, ◌<◌, ◌+◌, ◌*◌, ◌/◌, ◌%◌, ◌^◌}
use Rattle.std.proofs.Common.{arith}
use Rattle.m88_isa.specs.Lanes.{merged}
use Rattle.m88_isa.proofs.lanes.merged.Goals as goal

whole : (v w : ℕ) → v < 2 ^ 32 → v ≡ merged 15 v w
whole v w below = omega arith

upper_half : (v w : ℕ) → v % 2 ^ 16 * 2 ^ 16 % 2 ^ 32 + w % 2 ^ 16 ≡ merged 12 v w
upper_half v w = omega arith

lower_half : (v w : ℕ) → w < 2 ^ 32 → w / 2 ^ 16 * 2 ^ 16 % 2 ^ 32 + v % 2 ^ 16 ≡ merged 3 v w
lower_half v w below = omega arith

first_byte : (v w : ℕ) → v % 2 ^ 8 * 2 ^ 24 % 2 ^ 32 + w % 2 ^ 24 ≡ merged 8 v w
first_byte v w = omega arith

second_byte : (v w : ℕ) → w < 2 ^ 32 → w / 2 ^ 24 * 2 ^ 24 % 2 ^ 32 + v % 2 ^ 8 * 2 ^ 16 % 2 ^ 32 + w % 2 ^ 16 ≡ merged 4 v w
second_byte v w below = omega arith

third_byte : (v w : ℕ) → w < 2 ^ 32 → w / 2 ^ 16 * 2 ^ 16 % 2 ^ 32 + v % 2 ^ 8 * 2 ^ 8 % 2 ^ 32 + w % 2 ^ 8 ≡ merged 2 v w
third_byte v w below = omega arith

fourth_byte : (v w : ℕ) → w < 2 ^ 32 → w / 2 ^ 8 * 2 ^ 8 % 2 ^ 32 + v % 2 ^ 8 ≡ merged 1 v w
fourth_byte v w below = omega arith

pub returns-in-15 : goal.returns-in-15
returns-in-15 c = rw c.in-15.is (whole c.args.value c.args.word c.ranges.value.fits)

pub returns-in-12 : goal.returns-in-12
returns-in-12 c = rw c.in-12.is (upper_half c.args.value c.args.word)

pub returns-in-3 : goal.returns-in-3
returns-in-3 c = rw c.in-3.is (lower_half c.args.value c.args.word c.ranges.word.fits)

pub returns-in-8 : goal.returns-in-8
returns-in-8 c = rw c.in-8.is (first_byte c.args.value c.args.word)

pub returns-in-4 : goal.returns-in-4
returns-in-4 c = rw c.in-4.is (second_byte c.args.value c.args.word c.ranges.word.fits)

pub returns-in-2 : goal.returns-in-2
returns-in-2 c = rw c.in-2.is (third_byte c.args.value c.args.word c.ranges.word.fits)

pub returns-in_default : goal.returns-in_default
returns-in_default c =
    let last : c.args.en ≡ 1 = omega arith in rw last (fourth_byte c.args.value c.args.word c.ranges.word.fits)
