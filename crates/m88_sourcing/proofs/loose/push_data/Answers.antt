-- One item more, and all.
use Rattle.std.proofs.Common.{◌≡◌, ◌∙◌, ◌+◌, ◌<◌, ap, arith, drop, length}
use Rattle.m88_sourcing.specs.Data.{AreDataLines, item_here}
use Rattle.m88_sourcing.specs.Data.AreDataLines.{no_line}
use Rattle.m88_sourcing.proofs.Appending.{all_front}
use Rattle.m88_sourcing.proofs.Items.{next_item}
use Rattle.m88_sourcing.proofs.loose.push_data.Goals as goal

pub loop-done-preserved : goal.loop-done-preserved
loop-done-preserved c =
    let inv = c.loop-done.invariant in
    let same : length c.loop-done.finding.bytes.now ≡ length c.args.bytes.now = ap length inv.bytes in
    let low = c.loop-done-test.true in
    let there : c.loop-done.done < length c.loop-done.finding.bytes.now = omega (arith, same, low) in
    let fits = c.item_at-item.ensures.fits there in
    let len = c.len-done.ensures in
    record {
      within = omega (arith, fits, len, same);
      finding = c.item_at-item.ensures.finding;
      at = c.item_at-item.ensures.same.at ∙ inv.at;
      bytes = (λ i. (c.item_at-item.ensures.same.bytes i).now) ∙ inv.bytes;
      so_far = next_item c.args.at c.loop-done.done c.len-done.result c.args.bytes.now c.split_at.result.1.now
          c.args.text.now.items c.loop-done.text.items c.push_item.new.text.items c.item_at-item.result
          c.split_at.ensures.back low
          (c.item_at-item.ensures.value ∙ (λ i. item_here (inv.at i + c.loop-done.done) (drop c.loop-done.done (inv.bytes i))))
          len inv.so_far c.in_ok-push_item.ensures;
    }

pub returns : goal.returns
returns c =
    all_front AreDataLines (λ a. no_line) c.args.at c.loop-done.done c.args.bytes.now _ _ (omega arith)
    c.loop-done.invariant.so_far
