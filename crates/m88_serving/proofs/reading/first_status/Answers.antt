-- Where no line is left, none tells anything.
use Rattle.std.proofs.Common.{◌∙◌, sym}
use Rattle.m88_serving.specs.Lines.{status_in}
use Rattle.m88_serving.proofs.Taken.{none_first}
use Rattle.m88_serving.proofs.reading.first_status.Goals as goal

pub returns-then-is_empty : goal.returns-then-is_empty
returns-then-is_empty c = none_first status_in c.args.rest.now (sym c.is_empty.ensures ∙ c.if-is_empty.true)
