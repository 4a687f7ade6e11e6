-- Behind the last byte no line is left.
use Rattle.std.proofs.Common.{arith}
use Rattle.m88_disasm.proofs.Lines.{all_bytes}
use Rattle.m88_disasm.proofs.lister.push_bytes.Goals as goal

pub returns-clause-lines : goal.returns-clause-lines
returns-clause-lines c =
    all_bytes c.args.at c.loop-done.done c.args.bytes.now _ _ (omega arith) c.loop-done.invariant.so_far
