use Rattle.std.proofs.Common.{◌≡◌, ◌-◌, ◌+◌, ◌≤◌, arith, length}
use Rattle.m88_base.proofs.Copied.{next_piece}
use Rattle.m88_base.proofs.pieces.give.Goals as goal

pub returns-clause-bytes : goal.returns-clause-bytes
returns-clause-bytes c =
    let n : c.args.at + c.min-count.result - c.args.at ≡ c.min-count.result = omega arith in
    let fit : c.args.at + c.min-count.result ≤ length c.args.bytes.now = omega arith in
    next_piece c.args.bytes.now c.copy_from_slice.new.self _ c.args.at c.min-count.result (rw n at c.copy_from_slice.ensures.after) fit
