-- The counts of the board are those of the moment.
use Rattle.std.specs.Prelude.{ℕ, ◌≡◌, length}
use Rattle.std.proofs.Common.{ap, ap₂, ◌++◌, ◌∙◌}
use Rattle.m88_board.proofs.Laws.{done_at, events_at, pending_seen, retired_at}
use Rattle.m88_board.specs.Board.{BoardView}
use Rattle.m88_board.specs.Moves.{IsAt}
use Rattle.m88_event.specs.Timeline.{Moment, Run}
use Rattle.m88_session.specs.MonitorLines.{counts_line, counts_text}
use Rattle.m88_session.proofs.monitor.showing.push_counts.Goals as goal

counts_seen : (r : Run) (m : Moment) (b : BoardView) (events issued done pending : ℕ) → IsAt r m b
    → events ≡ b.events → issued ≡ b.retired → done ≡ b.done → pending ≡ length b.pending
    → counts_line events issued done pending ≡ counts_text r.program m
unfolding counts_text
counts_seen r m b events issued done pending at e i d n =
    ap₂ (λ x y. counts_line x y done pending) (e ∙ events_at r m b at) (i ∙ retired_at r m b at)
    ∙ ap₂ (λ x y. counts_line m.events m.retired x y) (d ∙ done_at r m b at) (n ∙ ap length (pending_seen r m b at))

pub returns : goal.returns
returns c = λ r m at.
    c.in_ok-push_count_line.ensures
    ∙ ap (λ line. c.args.text.now.items ++ line)
    (counts_seen r m c.args.board.now c.events.result c.issued.result c.done.result c.pending.result at c.events.ensures.value
    c.issued.ensures.value c.done.ensures.value c.pending.ensures.value)
