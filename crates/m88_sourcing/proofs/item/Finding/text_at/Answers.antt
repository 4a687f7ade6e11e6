-- Behind the place no text begins among the bytes that are printed.
use Rattle.m88_sourcing.proofs.Items.{no_text_up_to}
use Rattle.m88_sourcing.proofs.item.Finding.text_at.Goals as goal

pub returns-then-len-eq0-clause-finding : goal.returns-then-len-eq0-clause-finding
returns-then-len-eq0-clause-finding c = record {
  none = λ k from low.
      no_text_up_to c.args.self.now.bytes.now c.split_at.result.1.now c.args.place c.printed_len-printed.result
      c.text_len-len.result k c.split_at.ensures.back c.printed_len-printed.ensures.value c.text_len-len.ensures
      c.if-len-eq0.true from low;
}
