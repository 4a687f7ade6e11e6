-- Bytes that may be stored to, and what is changed of memory for an instruction.
use Rattle.std.specs.Prelude.{ℕ, Bool, true, false, not, List, [], ◌∷◌, ◌≡◌, ◌&&◌}
use Rattle.m88_base.specs.Pages.{page_number}
use Rattle.m88_mem.specs.DataBus.{MemoryView, absent_of, bus_of, ready_of}
use Rattle.m88_emul.specs.Timeline.{has_place_in}

-- a page is ready and present
abbrev pub IsOpenPage : (ℕ → Bool) → (ℕ → Bool) → ℕ → Type 0
IsOpenPage ready absent page = (ready page ≡ true) × (absent page ≡ false)

-- the page of each place is
unfoldable pub AreOpen : (ℕ → Bool) → (ℕ → Bool) → List ℕ → Type 0
AreOpen ready absent [] = Unit {0}
AreOpen ready absent (a ∷ places) =
    IsOpenPage ready absent (page_number a) × AreOpen ready absent places

-- the words of memory are these, and nothing else of it changed
pub record HasWords (words : ℕ → ℕ) (old new : MemoryView) : Type 0 where
  pub bus : bus_of new ≡ words
  pub image : new.image ≡ old.image
  pub ready : ready_of new ≡ ready_of old
  pub absent : absent_of new ≡ absent_of old

-- the pages of some places are present, and nothing else of memory changed
pub record AreSupplied (places : List ℕ) (old new : MemoryView) : Type 0 where
  pub absent : absent_of new ≡ (λ page. absent_of old page && not (has_place_in places page))
  pub image : new.image ≡ old.image
  pub bus : bus_of new ≡ bus_of old
  pub ready : ready_of new ≡ ready_of old
