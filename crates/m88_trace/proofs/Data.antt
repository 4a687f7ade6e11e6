-- The data that an event of `r` may need.
use Rattle.std.specs.Prelude.{ℕ, Bool, false, List, [], ◌∷◌, Some, ◌≡◌, ◌≤◌, drop, length, slice_get, take}
use Rattle.std.proofs.Common.{refl, sym, ap, ◌∙◌}
use Rattle.m88_base.specs.Pages.{page_number}
use Rattle.m88_event.specs.Choice.{faults, replies}
use Rattle.m88_isa.specs.Bus.{bus_after, bus_after_all}
use Rattle.m88_isa.specs.declared.planned.Access.{Access}
use Rattle.m88_trace.proofs.Writing.{IsDatum, three_data}
use Rattle.m88_trace.specs.Inside.Sheets.{AreData, AreDue}
use Rattle.m88_trace.specs.Lines.{datum_by}
use Rattle.m88_trace.specs.declared.sheet.Data.{Data}

-- the data of accesses, and they are those
abbrev pub data_by : List Access → (ℕ → ℕ) → List ℕ
data_by [] bus = []
data_by (a ∷ accesses) bus = datum_by a bus ∷ data_by accesses (bus_after a bus)

data_are : (accesses : List Access) (bus : ℕ → ℕ) → AreData (data_by accesses bus) accesses bus
data_are [] bus = tt
data_are (a ∷ accesses) bus = (refl, data_are accesses (bus_after a bus))

-- where that of the oldest is known, there are some of the others
pub and_others : (datum : ℕ) (accesses : List Access) (bus : ℕ → ℕ) → AreData (datum ∷ []) (take 1 accesses) bus →
    AreData (datum ∷ data_by (drop 1 accesses) (bus_after_all (take 1 accesses) bus)) accesses bus
unfolding bus_after_all
and_others datum [] bus are = tt
and_others datum (a ∷ accesses) bus are = (are.0, data_are accesses (bus_after a bus))

-- none of no accesses
pub none_due : (due : Data) (absent : ℕ → Bool) (bus : ℕ → ℕ) → AreDue due [] absent bus
none_due due absent bus = record { oldest = tt; all = λ chosen. tt }

-- that of the oldest, whose page is present
pub one_due : (due : Data) (accesses : List Access) (absent : ℕ → Bool) (bus : ℕ → ℕ) (oldest : Access) →
    slice_get accesses 0 ≡ Some oldest →
    absent (page_number oldest.addr) ≡ false →
    IsDatum 0 due.oldest accesses bus →
    AreDue due accesses absent bus
unfolding bus_after_all
one_due due [] absent bus oldest first there is = absurd cc
one_due due (a ∷ accesses) absent bus oldest first there is =
    let same : a ≡ oldest = cc in
    record {
      oldest = (is, tt);
      all = λ chosen.
          let gone : absent (page_number a.addr) ≡ false = ap (λ (x : Access). absent (page_number x.addr)) same ∙ there in
          absurd (let replied : replies ≡ faults = sym (rw gone refl) ∙ chosen in cc);
    }

-- those of all
pub all_due : (due : Data) (accesses : List Access) (absent : ℕ → Bool) (bus : ℕ → ℕ) → length accesses ≤ 3 →
    IsDatum 0 due.oldest accesses bus →
    IsDatum 1 due.second accesses bus →
    IsDatum 2 due.third accesses bus →
    AreDue due accesses absent bus
unfolding bus_after_all
all_due due [] absent bus few x y z = none_due due absent bus
all_due due (a ∷ accesses) absent bus few x y z = record {
  oldest = (x, tt);
  all = λ met. three_data due.oldest due.second due.third (a ∷ accesses) bus few x y z;
}
