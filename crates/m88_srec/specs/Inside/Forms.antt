-- How the code's forms are seen.
use Rattle.std.specs.Prelude.{ℕ, List, true, ◌≡◌, ◌+◌, ◌*◌, ◌/◌, ◌≤◌, ◌&&◌, length, sum, take}
use Rattle.std.specs.Char.{digit_value, is_digit}
use Rattle.m88_srec.specs.Records.{RecordType, are_more_pairs, bytes_in}
use Rattle.m88_srec.specs.Verdict.{Formed}
use Rattle.m88_srec.specs.declared.form.Form.{Form}
use Rattle.m88_srec.specs.declared.purpose.Purpose.{Purpose}

-- a purpose and a width as a type
abbrev pub type_seen : Purpose × ℕ → RecordType
type_seen t = record { purpose = t.0; width = t.1 }

-- a form without what its bytes add up to
abbrev pub form_seen : Form → Formed
form_seen f = record { purpose = f.purpose; width = f.width; bytes = f.bytes.now }

-- as many bytes as an address may have
pub record IsAddressWidth (width : ℕ) : Type 0 where
  pub some : 2 ≤ width
  pub narrow : width ≤ 4

-- the bytes of a record have room for its address, its count and its sum, and add up to a total
pub record AreWhole (width : ℕ) (bytes : List ℕ) (total : ℕ) : Type 0 where
  pub fits : IsAddressWidth width
  pub enough : width + 2 ≤ length bytes
  pub added : total ≡ sum bytes

-- two digits write a byte
pub record WritesByte (high low byte : ℕ) : Type 0 where
  pub digits : (is_digit high 16 && is_digit low 16) ≡ true
  pub value : byte ≡ digit_value high * 16 + digit_value low

-- digits are pairs, whose bytes stand in the front of a room and add up to a total
pub record WritePairs (digits room : List ℕ) (total : ℕ) : Type 0 where
  pub pairs : are_more_pairs digits ≡ true
  pub bytes : take (length digits / 2) room ≡ bytes_in digits
  pub added : total ≡ sum (bytes_in digits)
