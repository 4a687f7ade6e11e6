-- One stretch more, and all.
use Rattle.std.proofs.Common.{arith}
use Rattle.m88_sourcing.specs.Source.{AreLooseLines}
use Rattle.m88_sourcing.specs.Source.AreLooseLines.{no_byte}
use Rattle.m88_sourcing.proofs.Appending.{all_front, more_front}
use Rattle.m88_sourcing.proofs.loose.push_loose.Goals as goal

pub loop-done-preserved : goal.loop-done-preserved
loop-done-preserved c = record {
  within =
      let n = c.in_ok-len.ensures.within in
      let back = c.split_at.ensures.back_len in
      let done = c.loop-done.invariant.within in
      omega (arith, n, back, done);
  so_far = λ image said is.
      more_front (AreLooseLines image said) c.args.at c.loop-done.done c.in_ok-len.len c.args.bytes.now
      c.split_at.result.1.now c.args.text.now.items c.loop-done.text.items c.push_stretch.new.text.items
      c.split_at.ensures.back (c.loop-done.invariant.so_far image said is)
      (c.in_ok-len.ensures.lines image said is);
}

pub returns : goal.returns
returns c = λ image said is.
    all_front (AreLooseLines image said) (λ a. no_byte) c.args.at c.loop-done.done c.args.bytes.now _ _ (omega arith)
    (c.loop-done.invariant.so_far image said is)
