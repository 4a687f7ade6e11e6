-- A unit has one verdict, so what is answered is answered both ways.
use Rattle.m88_asm.proofs.OneUnit.{accepted_told, fault_told, one_verdict}
use Rattle.m88_asm.proofs.image.image_of.Goals as goal

pub returns-clause-only : goal.returns-clause-only
returns-clause-only c = accepted_told c.args.unit c.image_or_fault.result c.image_or_fault.ensures.fault

pub returns-clause-refused : goal.returns-clause-refused
returns-clause-refused c =
    fault_told c.args.unit c.image_or_fault.result c.image_or_fault.ensures.accepted c.image_or_fault.ensures.fault

pub returns-clause-one_verdict : goal.returns-clause-one_verdict
returns-clause-one_verdict c = one_verdict c.args.unit
