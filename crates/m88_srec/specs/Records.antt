-- The records of an S-record text (Motorola S-record format). A record is a line: an `S`, a type digit, and pairs of
-- hexadecimal digits, which write the count of the bytes behind it, an address, data, and a sum over all of these.
use Rattle.std.specs.Prelude.{ℕ, Bool, true, false, List, [], ◌∷◌, ◌++◌, Option, Some, None, ◌≡◌, ◌+◌, ◌-◌, ◌*◌, ◌%◌, ◌^◌, ◌==◌, ◌&&◌, length, sum, if◌then◌else◌}
use Rattle.std.specs.Char.{digit_value, is_digit}
use Rattle.m88_srec.specs.declared.purpose.Purpose.{Purpose}
use Rattle.m88_srec.specs.declared.purpose.Purpose.TheVariants.{Header, Data, Tally, End}

-- what a type digit says: the purpose, and how many bytes the address has
pub record RecordType : Type 0 where
  pub purpose : Purpose
  pub width : ℕ

-- a type with its purpose and width
abbrev pub record_type : Purpose → ℕ → Option RecordType
record_type purpose width = Some (record { purpose = purpose; width = width })

-- the types 0, 1, 2, 3, 5, 7, 8 and 9, by their digits
abbrev pub type_of : ℕ → Option RecordType
type_of digit =
    if digit == 48 + 0 then record_type Header 2
    else if digit == 48 + 1 then record_type Data 2
    else if digit == 48 + 2 then record_type Data 3
    else if digit == 48 + 3 then record_type Data 4
    else if digit == 48 + 5 then record_type Tally 2
    else if digit == 48 + 7 then record_type End 4
    else if digit == 48 + 8 then record_type End 3
    else if digit == 48 + 9 then record_type End 2
    else None

-- records of this purpose have no data
abbrev pub is_bare : Purpose → Bool
is_bare Header = false
is_bare Data = false
is_bare _ = true

-- the letter `S`
abbrev pub letter_s : ℕ
letter_s = 83

-- pairs of hexadecimal digits of either case
abbrev pub are_more_pairs : List ℕ → Bool
are_more_pairs [] = true
are_more_pairs (high ∷ []) = false
are_more_pairs (high ∷ low ∷ digits) = is_digit high 16 && is_digit low 16 && are_more_pairs digits

-- one pair at least
abbrev pub are_pairs : List ℕ → Bool
are_pairs [] = false
are_pairs (digit ∷ digits) = are_more_pairs (digit ∷ digits)

-- the bytes that pairs of digits write
abbrev pub bytes_in : List ℕ → List ℕ
bytes_in (high ∷ low ∷ digits) = (digit_value high * 16 + digit_value low) ∷ bytes_in digits
bytes_in _ = []

-- the sum of a record: the complement of the low byte of the sum of the bytes before it
abbrev pub check_of : List ℕ → ℕ
check_of bytes = 255 - sum bytes % 2 ^ 8

-- the count of a record's bytes, with the sum, and its body, address and data
abbrev pub counted : List ℕ → List ℕ
counted body = (length body + 1) ∷ body

-- all bytes of a record with a body: the count, the body and the sum
abbrev pub framed : List ℕ → List ℕ
framed body = counted body ++ check_of (counted body) ∷ []

-- a record: its purpose, the bytes of its address, and its data
pub record Entry : Type 0 where
  pub purpose : Purpose
  pub address : List ℕ
  pub given : List ℕ

-- a line writes a record
pub record WritesEntry (entry : Entry) (line : List ℕ) : Type 0 where
  pub digit : ℕ
  pub digits : List ℕ
  pub line_is : line ≡ letter_s ∷ digit ∷ digits
  pub type_is : type_of digit ≡ record_type entry.purpose (length entry.address)
  pub pairs : are_pairs digits ≡ true
  pub bytes : bytes_in digits ≡ framed (entry.address ++ entry.given)
  pub bare : is_bare entry.purpose ≡ true → entry.given ≡ []
