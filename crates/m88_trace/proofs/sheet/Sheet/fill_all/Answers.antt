-- One datum after the other is written.
use Rattle.m88_trace.proofs.Writing.{three_filled}
use Rattle.m88_trace.proofs.sheet.Sheet.fill_all.Goals as goal

pub returns : goal.returns
returns c =
    three_filled c.args.due c.args.self.now c.fill.new.self c.fill-2.new.self c.fill-3.new.self c.fill.ensures
    c.fill-2.ensures
    c.fill-3.ensures
