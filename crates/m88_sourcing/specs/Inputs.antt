-- The image that an input is, as S-records or as a binary, and why one is refused.
use Rattle.std.specs.Prelude.{◌≡◌, ℕ, ◌+◌, ◌<◌, ◌^◌, List, Option, Some, None, codes, length}
use Rattle.m88_base.specs.Image.{IsImage, ProgramImage, byte_at}
use Rattle.m88_base.specs.Placed.{byte_in}
use Rattle.m88_base.specs.Refusal.{Refusal}
use Rattle.m88_srec.specs.Accepted.{IsAccepted, whole_of}
use Rattle.m88_srec.specs.Refused.{IsRecords, IsRefusedRecords}
use Rattle.m88_sourcing.specs.declared.request.Binary.{Binary}

-- the image has the bytes of a binary from its address on, and starts where it does
pub record IsBinary (binary : Binary) (bytes : List ℕ) (image : ProgramImage) : Type 0 where
  pub low : binary.at < 2 ^ 32
  pub found : (a : ℕ) → byte_at image a ≡ byte_in (record { at = binary.at; bytes = bytes }) a
  pub start : image.start ≡ binary.start

-- one of the bytes would lie past the last address
abbrev pub ReachesPast : ℕ → List ℕ → Type 0
ReachesPast at bytes = 2 ^ 32 < at + length bytes

-- the refusal of a binary
abbrev pub binary_refusal : Refusal
binary_refusal = record { line = 1; column = 1; reason = codes "too large" }

-- an input says the bytes and the start of an image, read as S-records, or as a binary
abbrev pub SaysImage : Option Binary → List ℕ → ProgramImage → Type 0
SaysImage None input image = IsAccepted input (whole_of image)
SaysImage (Some binary) input image = IsBinary binary input image

-- the image that an input is
abbrev pub IsImageIn : Option Binary → List ℕ → ProgramImage → Type 0
IsImageIn binary input image = IsImage image × SaysImage binary input image

-- how it is refused
abbrev pub IsRefusedIn : Option Binary → List ℕ → Refusal → Type 0
IsRefusedIn None input r = IsRefusedRecords input r
IsRefusedIn (Some binary) input r = ReachesPast binary.at input × (r ≡ binary_refusal)

-- an input is accepted: S-records that write some bytes and a start, or a binary none of whose bytes would lie past the
-- last address. One of more than 1048576 bytes is no input: it is answered as too long before that.
abbrev pub IsAcceptedIn : Option Binary → List ℕ → Type 0
IsAcceptedIn None input = IsRecords input
IsAcceptedIn (Some binary) input = ¬ ReachesPast binary.at input
