-- The lines before the first line `source` are a script's, or a line stops them; without such a line there is no script.
use Rattle.std.proofs.Common.{refl}
use Rattle.m88_session.specs.Script.{stopped, stopped_alone, unended}
use Rattle.m88_session.proofs.script.read_script.Goals as goal

pub returns-in-Ok-commands_in-clause-script : goal.returns-in-Ok-commands_in-clause-script
returns-in-Ok-commands_in-clause-script c = record {
  script = c.in-Ok.parted.before.now;
  is_parted = c.in-Ok.ensures.parted;
  are_script = c.in-Ok-commands_in.ensures.found;
}

pub returns-in-Err-commands_in-clause-fault : goal.returns-in-Err-commands_in-clause-fault
returns-in-Err-commands_in-clause-fault c =
    stopped c.in-Ok.parted.before.now c.in-Ok.parted.lines c.in-Ok.parted.behind.now c.in-Ok.ensures.parted c.in-Err-commands_in.ensures.fault

pub returns-in-Ok-commands_in-2-clause-fault : goal.returns-in-Ok-commands_in-2-clause-fault
returns-in-Ok-commands_in-2-clause-fault c =
    unended c.in-Err.unparted.lines c.in-Ok-commands_in-2.field-0.items c.in-Err.ensures.unparted c.in-Ok-commands_in-2.ensures.found refl

pub returns-in-Err-commands_in-2-clause-fault : goal.returns-in-Err-commands_in-2-clause-fault
returns-in-Err-commands_in-2-clause-fault c =
    stopped_alone c.in-Err.unparted.lines c.in-Err.ensures.unparted c.in-Err-commands_in-2.ensures.fault
