-- The limits of inputs, runs, workloads and sessions; the constants of the code are held to them by the clauses that
-- cite these.
use Rattle.std.specs.Prelude.{ℕ}
pub use Rattle.m88_base.specs.Reading.{most_input}
pub use Rattle.m88_session.specs.Settings.{most_limit}

-- the most statements that a generated workload may have
abbrev pub most_statements : ℕ
most_statements = 40000

-- the most instructions that the board of a session with the monitor retires
abbrev pub session_limit : ℕ
session_limit = 100000
