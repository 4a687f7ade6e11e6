-- What was written, one after the other.
use Rattle.std.proofs.Common.{◌∙◌}
use Rattle.m88_entries.proofs.Lefts.{left_written}
use Rattle.m88_entries.proofs.left.push_left.Goals as goal

pub returns : goal.returns
returns c = λ f entered is_fault is_bus is_found.
    left_written c.args.text.now.items _ _ _ _ f entered c.args.left.now c.args.fault.now c.args.found.now c.as_slice.result.now
    is_fault is_bus is_found (c.as_slice.ensures.value ∙ c.in_ok-words.ensures)
    c.in_ok-push_registers.ensures c.in_ok-push_words.ensures c.in_ok-push_pages.ensures c.in_ok-push_controls.ensures
