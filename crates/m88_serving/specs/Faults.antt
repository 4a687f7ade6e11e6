-- Why an input of the form is refused: what its record can't be, and a word that is named twice.
use Rattle.std.specs.Prelude.{ℕ, Bool, true, false, ◌+◌, ◌%◌, ◌==◌, ◌&&◌, ◌||◌, not, List, [], ◌∷◌, ◌++◌, Option, Some, None, codes, if◌then◌else◌, option_map, slice_index_or}
use Rattle.std.specs.List.{list_any}
use Rattle.std.specs.Option.{option_or}
use Rattle.m88_base.specs.RegisterSet.{register_bits}
use Rattle.m88_base.specs.Reg.{number_of}
use Rattle.m88_base.specs.Triple.{no_triple}
use Rattle.m88_base.specs.declared.triple.Triple.{Triple}
use Rattle.m88_event.specs.Shadow.{status_of}
use Rattle.m88_event.specs.declared.record.Record.{Record}
use Rattle.m88_isa.specs.Bus.{waits_for}
use Rattle.m88_isa.specs.Triples.{access_in, accesses_in, dmt_of, is_valid_triple}
use Rattle.m88_isa.specs.declared.planned.Access.{Access}
use Rattle.m88_serving.specs.Cases.{Case}
use Rattle.m88_serving.specs.declared.fault.ServeFault.{ServeFault}
use Rattle.m88_serving.specs.declared.fault.ServeKind.{ServeKind}
use Rattle.m88_serving.specs.declared.fault.ServeKind.TheVariants as kind

-- the reasons as they are written
abbrev pub serve_reason : ServeKind → List ℕ
serve_reason kind.Form = codes "form"
serve_reason kind.Epsr = codes "epsr"
serve_reason kind.Access = codes "access"
serve_reason kind.Address = codes "address"
serve_reason kind.Datum = codes "datum"
serve_reason kind.Empty = codes "empty"
serve_reason kind.Order = codes "order"
serve_reason kind.Ssbr = codes "ssbr"
serve_reason kind.Twice = codes "twice"

-- the status that a board may have at a data fault: with the carry or without, with MXM or without
unfoldable pub is_status : ℕ → Bool
is_status word =
    word == status_of false false || word == status_of false true || word == status_of true false
    || word == status_of true true

-- a store loads no register and extends no sign
abbrev pub is_fit_store : Access → Bool
is_fit_store a = not a.write || number_of a.reg == 0 && not a.signed

-- a word is no signed datum, and no half of a double word and of an exchange at once
abbrev pub is_fit_word : Access → Bool
is_fit_word a = not a.signed && not (a.doub1 && a.lock)

-- a half word is no half of a double word or of an exchange
abbrev pub is_fit_half : Access → Bool
is_fit_half a = not a.doub1 && not a.lock

-- a byte is no half of a double word, and no signed one is half of an exchange
abbrev pub is_fit_byte : Access → Bool
is_fit_byte a = not a.doub1 && not (a.lock && a.signed)

-- by the enables
abbrev pub is_fit_size : Access → Bool
is_fit_size a =
    if a.en == 15 then is_fit_word a
    else if a.en == 12 || a.en == 3 then is_fit_half a
    else if a.en == 8 || a.en == 4 || a.en == 2 || a.en == 1 then is_fit_byte a
    else false

-- an access that some instruction makes
unfoldable pub is_fit : Access → Bool
is_fit a = is_fit_store a && is_fit_size a

-- the access of a DMT alone
abbrev pub access_of_dmt : ℕ → Access
access_of_dmt dmt = access_in (record { dmt = dmt; dmd = 0; dma = 0 })

-- a DMT that an access of some instruction has, and no bit besides (the law `EachDmtIsOfAnAccess` says so)
unfoldable pub is_dmt : ℕ → Bool
is_dmt dmt = is_fit (access_of_dmt dmt) && dmt_of (access_of_dmt dmt) == dmt

-- a valid transaction whose DMT no access has
unfoldable pub has_odd_access : Triple → Bool
has_odd_access t = is_valid_triple t && not (is_dmt t.dmt)

-- a valid transaction whose address is that of no word
unfoldable pub has_odd_address : Triple → Bool
has_odd_address t = is_valid_triple t && not (t.dma % 4 == 0)

-- a load with a datum
unfoldable pub has_datum : Triple → Bool
has_datum t = is_valid_triple t && not (access_in t).write && not (t.dmd == 0)

-- a transaction that isn't valid, and has a word other than 0
unfoldable pub is_unempty : Triple → Bool
is_unempty t = not (is_valid_triple t) && not (t.dmt == 0 && t.dmd == 0 && t.dma == 0)

-- a transaction of a record, 0 the oldest
abbrev pub triple_of_record : ℕ → Record → Triple
triple_of_record index r = slice_index_or r.triples index no_triple

-- a transaction is valid
abbrev pub is_valid_at : ℕ → Record → Bool
is_valid_at index r = is_valid_triple (triple_of_record index r)

-- the first of the lines 2, 3 and 4 for which this holds
abbrev pub first_line : Bool → Bool → Bool → Option ℕ
first_line t0 t1 t2 = if t0 then Some 2 else if t1 then Some 3 else if t2 then Some 4 else None

-- the line of the first transaction of which this holds
abbrev pub first_transaction : (Triple → Bool) → Record → Option ℕ
first_transaction holds r =
    first_line (holds (triple_of_record 0 r)) (holds (triple_of_record 1 r)) (holds (triple_of_record 2 r))

-- the line of the first valid transaction behind one that isn't
abbrev pub first_behind : Record → Option ℕ
first_behind r =
    first_line false (is_valid_at 1 r && not (is_valid_at 0 r))
    (is_valid_at 2 r && not (is_valid_at 0 r && is_valid_at 1 r))

-- line 1 where this doesn't hold
abbrev pub at_first : Bool → Option ℕ
at_first holds = if holds then None else Some 1

-- the set of the registers that the valid transactions load, r0 left out
abbrev pub awaited_set : Record → ℕ
awaited_set r =
    register_bits (waits_for (accesses_in (triple_of_record 0 r ∷ triple_of_record 1 r ∷ triple_of_record 2 r ∷ [])))

-- the address is that of a word of the list
abbrev pub is_named : List (ℕ × ℕ) → ℕ → Bool
is_named words address = list_any (λ word. word.0 == address) words

-- the number of the first line of a word that was named before, or stands earlier among these, the first of which has
-- a number
unfoldable pub repeated_from : ℕ → List (ℕ × ℕ) → List (ℕ × ℕ) → Option ℕ
repeated_from number before [] = None
repeated_from number before (word ∷ words) =
    if is_named before word.0 then Some number else repeated_from (number + 1) (before ++ word ∷ []) words

-- a fault of a kind at a line, where there is one
abbrev pub fault_of_kind : ServeKind → Option ℕ → Option ServeFault
fault_of_kind kind line = option_map (λ number. record { line = number; kind = kind }) line

-- the first fault of a record, by the order of the reasons
unfoldable pub record_fault : Record → Option ServeFault
record_fault r =
    option_or (fault_of_kind kind.Epsr (at_first (is_status r.epsr)))
    (option_or (fault_of_kind kind.Access (first_transaction has_odd_access r))
    (option_or (fault_of_kind kind.Address (first_transaction has_odd_address r))
    (option_or (fault_of_kind kind.Datum (first_transaction has_datum r))
    (option_or (fault_of_kind kind.Empty (first_transaction is_unempty r))
    (option_or (fault_of_kind kind.Order (first_behind r))
    (fault_of_kind kind.Ssbr (at_first (r.ssbr == awaited_set r))))))))

-- the first fault of a case
unfoldable pub case_fault : Case → Option ServeFault
case_fault c = option_or (record_fault c.fault) (fault_of_kind kind.Twice (repeated_from 5 [] c.words))
