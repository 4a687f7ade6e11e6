-- What a board that stands at a moment shows of it.
use Rattle.std.specs.Prelude.{List, ◌≡◌, map}
use Rattle.std.specs.List.{range_with_len}
use Rattle.std.proofs.Common.{ap}
use Rattle.m88_event.specs.Local.{Local, local_at, register_seen, register_shown}
use Rattle.m88_event.specs.Timeline.{Moment, Run}
use Rattle.m88_event.specs.declared.letter.Letter.{Letter}
use Rattle.m88_isa.specs.History.{completed_state}
use Rattle.m88_board.specs.Board.{BoardView, completed_of, local_of}
use Rattle.m88_board.specs.Moves.{IsAt}

module _ (r : Run) (m : Moment) (b : BoardView) (at : IsAt r m b) where
  -- its counts, and the records
  pub events_at : b.events ≡ m.events
  unfolding local_of local_at
  events_at = ap (λ (l : Local). l.events) at.seen

  pub retired_at : b.retired ≡ m.retired
  unfolding local_of local_at
  retired_at = ap (λ (l : Local). l.retired) at.seen

  pub done_at : b.done ≡ m.done
  unfolding local_of local_at
  done_at = ap (λ (l : Local). l.done) at.seen

  pub records_at : b.records ≡ m.records
  unfolding local_of local_at
  records_at = ap (λ (l : Local). l.records) at.seen

  -- its registers
  pub registers_seen :
      map (register_seen b.pending (completed_of b).regs) (range_with_len 0 32)
      ≡ map (register_shown r.program m) (range_with_len 0 32)
  unfolding local_of local_at completed_state
  registers_seen = ap (λ (l : Local). map (register_seen l.pending l.completed.regs) (range_with_len 0 32)) at.seen

-- it stands there whatever letters the run has
pub relettered : (r : Run) (letters : List Letter) (m : Moment) (b : BoardView) → IsAt r m b → IsAt (record r { schedule = letters }) m b
unfolding local_at
relettered r letters m b at = record {
  image = at.image;
  limit = at.limit;
  within = at.within;
  past = record {
    within = at.past.within;
    retired = at.past.retired;
    pending = at.past.pending;
    ended = λ marked. let end = at.past.ended marked in record { next = end.next; early = end.early; drained = end.drained };
    bubbled = at.past.bubbled;
    unbubbled = at.past.unbubbled;
    counted = at.past.counted;
    put_out = at.past.put_out;
  };
  seen = at.seen;
}
