-- What was read is the unit of the source, which can be laid out, and a fault is its first fault.
use Rattle.std.proofs.lemmas.Result.{IfOk-weaker}
use Rattle.m88_parse.specs.Language.Units.{IsUnit}
use Rattle.m88_parse.specs.WellFormed.{IsWellFormed}
use Rattle.m88_parse.proofs.FormedUnits.{unit_formed}
use Rattle.m88_parse.proofs.Law.Faults.{found_fault, only_fault, one_verdict}
use Rattle.m88_parse.proofs.Law.FaultKinds.{source_kinds}
use Rattle.m88_parse.proofs.Law.Units.{found_unit, only_unit}
use Rattle.m88_parse.proofs.source.parse.Goals as goal

pub returns-clause-unit : goal.returns-clause-unit
returns-clause-unit c = found_unit c.args.source.now c.read_unit.result c.read_unit.ensures

pub returns-clause-only : goal.returns-clause-only
returns-clause-only c = only_unit c.args.source.now c.read_unit.result c.read_unit.ensures

pub returns-clause-fault : goal.returns-clause-fault
returns-clause-fault c = found_fault c.args.source.now c.read_unit.result c.read_unit.ensures

pub returns-clause-refused : goal.returns-clause-refused
returns-clause-refused c = only_fault c.args.source.now c.read_unit.result c.read_unit.ensures

pub returns-clause-one_verdict : goal.returns-clause-one_verdict
returns-clause-one_verdict c = one_verdict c.args.source.now

pub returns-clause-formed : goal.returns-clause-formed
returns-clause-formed c =
    IfOk-weaker c.read_unit.result (IsUnit c.args.source.now) IsWellFormed
    (λ u. unit_formed c.args.source.now u c.requires)
    (found_unit c.args.source.now c.read_unit.result c.read_unit.ensures)

pub returns-clause-kind : goal.returns-clause-kind
returns-clause-kind c =
    source_kinds c.args.source.now c.read_unit.result
    (found_fault c.args.source.now c.read_unit.result c.read_unit.ensures)
