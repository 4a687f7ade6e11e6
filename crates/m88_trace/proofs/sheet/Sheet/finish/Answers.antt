-- All is written.
use Rattle.m88_trace.proofs.Writing.{written_all}
use Rattle.m88_trace.proofs.sheet.Sheet.finish.Goals as goal

pub returns : goal.returns
returns c = λ bus none. written_all c.args.self.text.items c.args.self.waiting.items bus none
