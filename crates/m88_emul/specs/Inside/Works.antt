-- What goes to memory along the extended history: transactions, and what software stores.
use Rattle.std.specs.Prelude.{ℕ, zero, suc, List, [], ◌∷◌, ◌++◌, map}
use Rattle.m88_isa.specs.Bus.{bus_after, bus_after_all, in_words}
use Rattle.m88_isa.specs.History.{turn_accesses}
use Rattle.m88_isa.specs.Machine.{Program, opening}
use Rattle.m88_isa.specs.Memory.{access_of}
use Rattle.m88_isa.specs.declared.planned.Access.{Access}
use Rattle.m88_emul.specs.Extended.{Deed, aided, alone, deed_at, extended_state}

-- what goes to memory: a transaction, or the bytes that software stores, which make none
pub data Work : Type 0 where
  transacts : Access → Work
  mends : List Access → Work

-- the work of a deed
abbrev pub work_of : Deed → List Work
work_of (alone turn) = map transacts (turn_accesses turn)
work_of (aided vector aid) = mends (map access_of aid.stores) ∷ []

-- the work of the first steps of a history, in order
unfoldable pub work_before : Program → ℕ → List Work
work_before p zero = []
work_before p (suc n) = work_before p n ++ work_of (deed_at p (extended_state p n))

-- the transactions among some work
unfoldable pub transacted : List Work → List Access
transacted [] = []
transacted (transacts a ∷ works) = a ∷ transacted works
transacted (mends xs ∷ works) = transacted works

-- the words after all that software stored and the first so many transactions, in the order of the history
unfoldable pub bus_after_work : ℕ → List Work → (ℕ → ℕ) → ℕ → ℕ
bus_after_work done [] bus = bus
bus_after_work zero (transacts a ∷ works) bus = bus_after_work zero works bus
bus_after_work (suc done) (transacts a ∷ works) bus = bus_after_work done works (bus_after a bus)
bus_after_work done (mends xs ∷ works) bus = bus_after_work done works (bus_after_all xs bus)

-- memory by words behind the first steps, of whose transactions the first so many are done
abbrev pub extended_bus : Program → ℕ → ℕ → ℕ → ℕ
extended_bus p n done = bus_after_work done (work_before p n) (in_words (opening p).memory)
