-- So many lines are those of a script, before the rest.
use Rattle.std.proofs.Common.{◌+◌, ◌≤◌, length}
use Rattle.m88_session.proofs.ScriptReading.{HasRead}
use Rattle.m88_session.proofs.script.commands_in.Given as goal

abbrev pub invariant-loop-rest : goal.invariant-loop-rest
invariant-loop-rest l = record {
  read : HasRead l.text l.rest l.commands.items l.passed;
  few : l.passed + length l.rest ≤ length l.text;
}

abbrev pub decreases-loop-rest : goal.decreases-loop-rest
decreases-loop-rest l = length l.rest
