-- The verdict on an S-record text (Motorola S-record format), line by line: what the lines so far write, or the first
-- fault. Of the reasons that a line can be refused for, the first that applies counts.
use Rattle.std.specs.Prelude.{ℕ, Bool, List, [], ◌∷◌, Option, Some, None, Result, Ok, Err, ◌≡◌, ◌+◌, ◌-◌, ◌==◌, ◌&&◌, ◌||◌, drop, is_some, length, nat_lt, not, slice_index, take, if◌then◌else◌}
use Rattle.m88_base.specs.Lines.{lines_of}
use Rattle.m88_srec.specs.Accepted.{Whole, address_of}
use Rattle.m88_srec.specs.Placing.{Loaded, first_taken, is_beyond, nothing_loaded, with_data}
use Rattle.m88_srec.specs.Records.{RecordType, are_pairs, bytes_in, check_of, is_bare, letter_s, type_of}
use Rattle.m88_srec.specs.declared.purpose.Purpose.{Purpose}
use Rattle.m88_srec.specs.declared.purpose.Purpose.TheVariants.{Header, Data, Tally, End}
use Rattle.m88_srec.specs.declared.fault.SrecFault.{SrecFault}
use Rattle.m88_srec.specs.declared.fault.SrecKind.{SrecKind}
use Rattle.m88_srec.specs.declared.fault.SrecKind.TheVariants.{AfterEnd, Count, CountRecord, Form, NoEnd, Overlap, Sum, TooLarge}

-- what the lines so far write: what they load, the number of records that load, and the start address behind the end
-- record
pub record Load : Type 0 where
  pub loaded : Loaded
  pub records : ℕ
  pub start : Option ℕ

-- before the first line
abbrev pub opening_load : Load
opening_load = record { loaded = nothing_loaded; records = 0; start = None }

-- a line that has the form of a record: its purpose, the width of its address, and all its bytes
pub record Formed : Type 0 where
  pub purpose : Purpose
  pub width : ℕ
  pub bytes : List ℕ

-- a form of a type with these bytes
abbrev pub formed_as : Option RecordType → List ℕ → Option Formed
formed_as None bytes = None
formed_as (Some t) bytes = Some (record { purpose = t.purpose; width = t.width; bytes = bytes })

-- the form of a line, where it has one
unfoldable pub record_form : List ℕ → Option Formed
record_form (s ∷ digit ∷ digits) =
    if s == letter_s && are_pairs digits then formed_as (type_of digit) (bytes_in digits) else None
record_form _ = None

-- the count that is written
abbrev pub written_count : Formed → ℕ
written_count f = slice_index f.bytes 0

-- the number of bytes that follow it
abbrev pub following : Formed → ℕ
following f = length f.bytes - 1

-- the count is another than the number of bytes that follow, or there are too few for address and sum, or a record
-- that has no data has some
abbrev pub is_miscounted : Formed → Bool
is_miscounted f =
    not (written_count f == following f) || nat_lt (following f) (f.width + 1)
    || is_bare f.purpose && not (following f == f.width + 1)

-- the sum that is written
abbrev pub written_sum : Formed → ℕ
written_sum f = slice_index f.bytes (following f)

-- the sum of the bytes before it
abbrev pub computed_sum : Formed → ℕ
computed_sum f = check_of (take (following f) f.bytes)

-- the address of a record
abbrev pub record_address : Formed → ℕ
record_address f = address_of (take f.width (drop 1 f.bytes))

-- its data
abbrev pub record_data : Formed → List ℕ
record_data f = drop (f.width + 1) (take (following f) f.bytes)

-- data is loaded, unless it is too large or a byte is given twice
abbrev pub placed_on : Option ℕ → Load → ℕ → List ℕ → Result Load SrecKind
placed_on (Some taken) load at given = Err (Overlap taken)
placed_on None load at given = Ok (record load { loaded = with_data at given load.loaded; records = load.records + 1 })

-- data against what is loaded already
unfoldable pub data_placed : Load → ℕ → List ℕ → Result Load SrecKind
data_placed load at given =
    if is_beyond at (length given) load.loaded then Err TooLarge
    else placed_on (first_taken load.loaded.found at (length given)) load at given

-- what a record does by its purpose
unfoldable pub acted : Load → Purpose → ℕ → List ℕ → Result Load SrecKind
acted load Header at given = Ok load
acted load Data at given = data_placed load at given
acted load Tally at given = if at == load.records then Ok load else Err (CountRecord at load.records)
acted load End at given = Ok (record load { start = Some at })

-- the sum is looked at, then the record is carried out
unfoldable pub summed : Load → Formed → Result Load SrecKind
summed load f =
    if written_sum f == computed_sum f then acted load f.purpose (record_address f) (record_data f)
    else Err (Sum (written_sum f) (computed_sum f))

-- the count is looked at first
unfoldable pub framed_on : Load → Formed → Result Load SrecKind
framed_on load f = if is_miscounted f then Err (Count (written_count f) (following f)) else summed load f

-- a line without the form of a record is refused
abbrev pub formed_on : Load → Option Formed → Result Load SrecKind
formed_on load None = Err Form
formed_on load (Some f) = framed_on load f

-- one line more: an empty one says nothing, and nothing else may stand behind the end record
unfoldable pub judged : Load → List ℕ → Result Load SrecKind
judged load [] = Ok load
judged load (b ∷ bs) = if is_some load.start then Err AfterEnd else formed_on load (record_form (b ∷ bs))

-- behind the last line, which has the number before this one: there was an end record
abbrev pub ended_on : ℕ → Loaded → Option ℕ → Result Whole SrecFault
ended_on number loaded (Some start) = Ok (record { found = loaded.found; start = start })
ended_on number loaded None = Err (record { line = number; kind = NoEnd })

-- behind a line with a number: on with what it leaves, or its fault
abbrev pub go_on : ℕ → Result Load SrecKind → (Load → Result Whole SrecFault) → Result Whole SrecFault
go_on number (Ok load) rest = rest load
go_on number (Err kind) rest = Err (record { line = number; kind = kind })

-- the lines from one with a number on
unfoldable pub verdict_from : ℕ → Load → List (List ℕ) → Result Whole SrecFault
verdict_from number load [] = ended_on number load.loaded load.start
verdict_from number load (line ∷ lines) =
    go_on number (judged load line) (λ later. verdict_from (number + 1) later lines)

-- the verdict on a text: what it writes, or its first fault
abbrev pub verdict : List ℕ → Result Whole SrecFault
verdict text = verdict_from 1 opening_load (lines_of text)

-- the first fault of a text of S-records
abbrev pub IsFirstSrecFault : List ℕ → SrecFault → Type 0
IsFirstSrecFault text fault = verdict text ≡ Err fault
