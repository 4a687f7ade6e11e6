-- What an emulation changes.
use Rattle.std.specs.Prelude.{ℕ, not, List, ◌≡◌, ◌&&◌, map}
use Rattle.m88_isa.specs.Bus.{bus_after_all}
use Rattle.m88_isa.specs.Memory.{access_of}
use Rattle.m88_mem.specs.DataBus.{MemoryView, StaysReady, absent_of, bus_of}
use Rattle.m88_emul.specs.Aid.{Aid, with_all}
use Rattle.m88_emul.specs.Timeline.{has_place_in}

-- the registers and memory after an aid: registers and bytes are changed as it says, the pages of its bytes are
-- present, and all else is as before but that pages may have become ready
pub record IsAided (aid : Aid) (before after : List ℕ) (old new : MemoryView) : Type 0 where
  pub regs : after ≡ with_all aid.writes before
  pub bus : bus_of new ≡ bus_after_all (map access_of aid.stores) (bus_of old)
  pub absent : absent_of new ≡ (λ page. absent_of old page && not (has_place_in aid.places page))
  pub image : new.image ≡ old.image
  pub ready : StaysReady old new
