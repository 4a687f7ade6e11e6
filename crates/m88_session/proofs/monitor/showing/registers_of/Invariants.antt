-- The registers so far are those that the board shows.
use Rattle.std.proofs.Common.{ℕ, ◌≡◌, ◌<◌, None, get_or, length}
use Rattle.m88_board.specs.Board.{completed_of}
use Rattle.m88_event.specs.Local.{register_seen}
use Rattle.m88_session.proofs.monitor.showing.registers_of.Given as goal

abbrev pub invariant-loop-n : goal.invariant-loop-n
invariant-loop-n l = record {
  long : length l.registers ≡ 32;
  shown : (k : ℕ) → k < l.n → get_or l.registers k None ≡ register_seen l.board.pending (completed_of l.board).regs k;
}
