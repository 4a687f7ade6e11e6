-- A trace that is being written, of which some accesses wait for their data.
use Rattle.std.specs.Prelude.{ℕ, Bool, List, [], ◌∷◌, ◌++◌, ◌≡◌, ◌≤◌, ◌+◌, drop, length, map, take}
use Rattle.m88_base.specs.Hex.{hex8}
use Rattle.m88_board.specs.Told.{MakesWordAccesses}
use Rattle.m88_event.specs.Choice.{answer_choice, faults}
use Rattle.m88_isa.specs.Bus.{bus_after, bus_after_all}
use Rattle.m88_isa.specs.Memory.{IsWordAccess}
use Rattle.m88_isa.specs.declared.planned.Access.{Access}
use Rattle.m88_isa.specs.declared.planned.Plan.{Plan}
use Rattle.m88_trace.specs.Lines.{datum_by}
use Rattle.m88_trace.specs.declared.sheet.Data.{Data}
use Rattle.m88_trace.specs.declared.sheet.Sheet.{Sheet}
use Rattle.m88_trace.specs.declared.waiting.Waiting.{Waiting}

-- the accesses that wait, the oldest first
abbrev pub waiting_accesses : List Waiting → List Access
waiting_accesses waiting = map (λ (w : Waiting). w.access) waiting

-- a text with some eight bytes in place of those from an index on
unfoldable pub with_eight : List ℕ → ℕ → List ℕ → List ℕ
with_eight text at eight = take at text ++ eight ++ drop (at + 8) text

-- the text once the accesses that wait have the data that they get of some words of memory
unfoldable pub text_by : List ℕ → List Waiting → (ℕ → ℕ) → List ℕ
text_by text [] bus = text
text_by text (w ∷ waiting) bus =
    text_by (with_eight text w.at (hex8 (datum_by w.access bus))) waiting (bus_after w.access bus)

-- that of a sheet
abbrev pub sheet_text : Sheet → (ℕ → ℕ) → List ℕ
sheet_text s = text_by s.text.items s.waiting.items

-- the accesses that wait on it
abbrev pub sheet_accesses : Sheet → List Access
sheet_accesses s = waiting_accesses s.waiting.items

-- accesses are ones that the data unit can make
abbrev pub AllWordAccesses : List Access → Type 0
AllWordAccesses [] = Unit {0}
AllWordAccesses (a ∷ accesses) = IsWordAccess a × AllWordAccesses accesses

-- in a text of some length there is room for the datum of each access that waits
abbrev pub HasRoomForAll : ℕ → List Waiting → Type 0
HasRoomForAll len [] = Unit {0}
HasRoomForAll len (w ∷ waiting) = (w.at + 8 ≤ len) × HasRoomForAll len waiting

-- those that wait on a sheet can be made, and their data have room
pub record AreMade (s : Sheet) : Type 0 where
  pub words : AllWordAccesses (sheet_accesses s)
  pub room : HasRoomForAll (length s.text.items) s.waiting.items

-- a plan's accesses can wait on a sheet, where it makes some
pub record CanAdd (plan : Plan) (s : Sheet) : Type 0 where
  pub made : AreMade s
  pub words : MakesWordAccesses plan

-- an access can wait on it
pub record CanWait (a : Access) (s : Sheet) : Type 0 where
  pub made : AreMade s
  pub word : IsWordAccess a

-- nothing is written on a sheet
pub record IsBlank (s : Sheet) : Type 0 where
  pub text : (bus : ℕ → ℕ) → sheet_text s bus ≡ []
  pub waiting : sheet_accesses s ≡ []
  pub made : AreMade s

-- something is written on a sheet behind what stands there, by the words of memory that those that wait leave, and some
-- accesses more wait
pub record HasAdded (added : (ℕ → ℕ) → List ℕ) (accesses : List Access) (old new : Sheet) : Type 0 where
  pub text : (bus : ℕ → ℕ) → sheet_text new bus ≡ sheet_text old bus ++ added (bus_after_all (sheet_accesses old) bus)
  pub waiting : sheet_accesses new ≡ sheet_accesses old ++ accesses
  pub made : AreMade new

-- some data are those of accesses, the first of the oldest, at the words of memory that it meets
abbrev pub AreData : List ℕ → List Access → (ℕ → ℕ) → Type 0
AreData values [] bus = Unit {0}
AreData [] (a ∷ accesses) bus = ⊥
AreData (datum ∷ values) (a ∷ accesses) bus = (datum ≡ datum_by a bus) × AreData values accesses (bus_after a bus)

-- the data of three accesses, the oldest first
abbrev pub three_of : Data → List ℕ
three_of three = three.oldest ∷ three.second ∷ three.third ∷ []

-- the data that an event of `r` may need of the accesses that wait: that of the oldest, and where it meets its fault,
-- those of all
pub record AreDue (due : Data) (accesses : List Access) (absent : ℕ → Bool) (bus : ℕ → ℕ) : Type 0 where
  pub oldest : AreData (due.oldest ∷ []) (take 1 accesses) bus
  pub all : answer_choice accesses absent ≡ faults → AreData (three_of due) accesses bus

-- the datum of the oldest access that waits is written, if one does
pub record HasFilled (datum : ℕ) (old new : Sheet) : Type 0 where
  pub text : (bus : ℕ → ℕ) (values : List ℕ) → AreData (datum ∷ values) (sheet_accesses old) bus
      → sheet_text new (bus_after_all (take 1 (sheet_accesses old)) bus) ≡ sheet_text old bus
  pub waiting : sheet_accesses new ≡ drop 1 (sheet_accesses old)
  pub made : AreMade new

-- the data of all accesses that wait are written, if three do at most
pub record HasFilledAll (due : Data) (old new : Sheet) : Type 0 where
  pub text : (bus after : ℕ → ℕ) → AreData (three_of due) (sheet_accesses old) bus → length (sheet_accesses old) ≤ 3
      → sheet_text new after ≡ sheet_text old bus
  pub waiting : length (sheet_accesses old) ≤ 3 → sheet_accesses new ≡ []
  pub made : AreMade new
