-- Nothing is written.
use Rattle.std.proofs.Common.{rules}
use Rattle.m88_trace.proofs.Writing.{written_blank}
use Rattle.m88_trace.proofs.sheet.Sheet.new.Goals as goal

pub returns : goal.returns
returns c = record {
  text = λ bus. written_blank c.new.result.items c.new-2.result.items bus c.new.ensures.items c.new-2.ensures.items;
  waiting = search rules;
  made = search rules;
}
