-- A session of the input answers it, and so does the line that refuses it.
use Rattle.std.proofs.Common.{rules}
use Rattle.m88_session.specs.Settings.{settings_in}
use Rattle.m88_commands.specs.Command.{mon}
use Rattle.m88_commands.proofs.Refusing.{refused_shown}
use Rattle.m88_commands.proofs.Reporting.{answers_none}
use Rattle.m88_commands.proofs.Sessions.{session_answer, session_front, session_shown}
use Rattle.m88_commands.proofs.commands.monitoring.run_monitor.Goals as goal
