-- Every page is made absent: what always holds of a board goes on to hold, and nothing else changes.
use Rattle.std.specs.Prelude.{ℕ, Bool, ◌≡◌, ◌+◌}
use Rattle.std.proofs.Common.{ap, sym, subst}
use Rattle.m88_base.specs.Image.{IsImage}
use Rattle.m88_mem.specs.DataBus.{MemoryView, bus_of, ready_of}
use Rattle.m88_board.proofs.Stopping.{still_ends}
use Rattle.m88_board.specs.Board.{BoardView, event_counted}
use Rattle.m88_board.specs.Kept.{AreReady, IsKept, SlotsAgree}
use Rattle.m88_board.specs.Moves.{IsEvicted}

-- the words, the pages that are ready and the image stay
pub kept_evicted : (b : BoardView) (memory : MemoryView) →
    IsKept b →
    bus_of memory ≡ bus_of b.memory →
    ready_of memory ≡ ready_of b.memory →
    memory.image ≡ b.memory.image →
    IsKept (record b { memory = memory })
kept_evicted b memory kept bus ready image = record {
  parts = record {
    few = kept.parts.few;
    made = kept.parts.made;
    apart = kept.parts.apart;
    waiting = kept.parts.waiting;
    ready = subst (λ (set : ℕ → Bool). AreReady set b.pending) (sym ready) kept.parts.ready;
  };
  image = subst IsImage (sym image) kept.image;
  slots = subst (λ i. SlotsAgree i b.slots) (sym image) kept.slots;
  bubbled = kept.bubbled;
  unbubbled = kept.unbubbled;
  status = kept.status;
  drained = kept.drained;
  made = kept.made;
  told = kept.told;
  put_out = kept.put_out;
  within = kept.within;
  early = kept.early;
  ends = kept.ends;
  ends_so = still_ends b memory b.ended image bus kept.ends_so;
  small = kept.small;
  counted = kept.counted;
}

-- the count of events is no page
pub evicted_counted : (old middle new : BoardView) → new ≡ event_counted middle → IsEvicted old middle →
    IsEvicted old new
evicted_counted old middle new is evicted = subst (λ (b : BoardView). IsEvicted old b) (sym is) (record {
  rest = ap (λ (b : BoardView). record b { book = record b.book { events = middle.events + 1 } }) evicted.rest;
  image = evicted.image;
  bus = evicted.bus;
  ready = evicted.ready;
  absent = evicted.absent;
})
