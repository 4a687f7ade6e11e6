-- The laws of the board that proofs above cite, by their subject.

-- A board at a moment of a history has its counts and its records.
pub use Rattle.m88_board.proofs.AtMoment.{done_at, events_at, records_at, retired_at}
-- it shows the registers, the data unit and the memory of that moment
pub use Rattle.m88_board.proofs.AtMoment.{registers_seen}
pub use Rattle.m88_board.proofs.Shown.{pending_seen, words_seen}
-- it has something pending where the moment does
pub use Rattle.m88_board.proofs.Walking.{drained_by}
-- Each letter counts an event.
pub use Rattle.m88_board.proofs.Walking.{along_events}
-- Walks: a condition that held at none of the first k moments and fails at the next held at none of the first k + 1.
pub use Rattle.m88_board.proofs.Walking.{not_yet}
-- Searches: the least number from one on that passes a test is that one, lies behind it, or is none where none is left.
pub use Rattle.m88_board.proofs.Searching.{here_first, not_here, nowhere}
-- Fetching: a program has no instruction where a word is none, and the one of the word where it is one.
pub use Rattle.m88_board.proofs.Fetching.{found_there, none_there}
-- Those who watch a board see nothing without an event, and of two walks the glances of both.
pub use Rattle.m88_board.proofs.Seeing.{saw_none, saw_then}
-- The program of a board has its image's bytes, and its mode stays as it is.
pub use Rattle.m88_board.proofs.OfHistory.{mode_stays}
pub use Rattle.m88_board.proofs.Starting.{same_bytes}
