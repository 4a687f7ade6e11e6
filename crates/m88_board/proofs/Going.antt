-- A program that hasn't ended: while more may be issued, and while something is pending.
use Rattle.std.specs.Prelude.{false, ◌≡◌, ◌≢◌, ◌<◌, ◌≤◌, ◌+◌, ◌==◌, is_some, length}
use Rattle.std.proofs.Common.{arith, ap}
use Rattle.std.proofs.lemmas.Bool.{eqb-false}
use Rattle.m88_isa.proofs.Laws.{by_test}
use Rattle.m88_board.specs.Board.{BoardView, is_idle_board}
use Rattle.m88_board.specs.Kept.{IsKept}

-- while it isn't idle, it hasn't ended, and one more may be retired
pub not_ended : (b : BoardView) → is_idle_board b ≡ false → is_some b.ended ≡ false
not_ended b h = by_test (is_some b.ended) (λ t. absurd (let no = rw t at h in cc)) (λ f. f)

pub one_more : (b : BoardView) → is_idle_board b ≡ false → b.retired ≤ b.limit → b.retired + 1 ≤ b.limit
one_more b h within = by_test (b.retired == b.limit)
    (λ t. absurd (let no = rw (not_ended b h, t) at h in cc))
    (λ f. let other : b.retired ≢ b.limit = eqb-false b.retired b.limit f in omega (arith, within, other))

-- where something is pending, it hasn't ended
pub still_going : (b : BoardView) → IsKept b → 0 < length b.pending → is_some b.ended ≡ false
still_going b kept some = by_test (is_some b.ended)
    (λ t. absurd (let none = ap length (kept.drained t) in omega (arith, none, some)))
    (λ f. f)
