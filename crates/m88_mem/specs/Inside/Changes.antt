-- What a memory becomes, and the words of it that changed, page by page.
use Rattle.std.specs.Prelude.{ℕ, true, List, Some, ◌≡◌, ◌<◌, ◌+◌, ◌*◌, length, slice_get, OnErr, OnOk, Result}
use Rattle.m88_base.specs.Pages.{IsPage}
use Rattle.m88_isa.specs.Bus.{changed_among}
use Rattle.m88_mem.specs.DataBus.{MemoryView, absent_of, bus_of, image_bus, page_words, ready_of}
use Rattle.m88_mem.specs.Marks.{with_page}

-- a page was made ready where memory was to be had, and where none was nothing changed
pub record MakesReady {T E : Type 0} (before after : MemoryView) (page : ℕ) (made : Result T E) : Type 0 where
  pub image : after.image ≡ before.image
  pub bus : bus_of after ≡ bus_of before
  pub absent : absent_of after ≡ absent_of before
  pub ready : OnOk made (ready_of after ≡ with_page page true (ready_of before))
  pub unchanged : OnErr made (after ≡ before)

-- the words that changed in the pages before one
abbrev pub changed_before : MemoryView → ℕ → List (ℕ × ℕ)
changed_before m page = changed_among (page * page_words) (image_bus m.image) (bus_of m)

-- a walk over the words that changed has come to a page
pub record HasComeTo (m : MemoryView) (page : ℕ) (changed : List (ℕ × ℕ)) : Type 0 where
  pub is_page : IsPage page
  pub before : changed ≡ changed_before m page

-- such a walk goes over the words of a page that is ready
pub record GoesOver (m : MemoryView) (page : ℕ) (words : List ℕ) (changed : List (ℕ × ℕ)) : Type 0 where
  pub here : HasComeTo m page changed
  pub long : length words ≡ page_words
  pub each : (k : ℕ) → k < page_words → slice_get words k ≡ Some (bus_of m (page * 4096 + k * 4))
