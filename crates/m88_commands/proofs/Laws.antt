-- The laws of commands that the proof of the top call cites.

pub use Rattle.m88_commands.proofs.Promises.{command_laws}
-- An input that a command refuses isn't accepted.
pub use Rattle.m88_commands.proofs.OneSource.{refused_not_accepted}
