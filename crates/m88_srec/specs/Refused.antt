-- S-records as the input of a program: what is accepted, and how any other text is refused (formats: the line that
-- refuses an input).
use Rattle.std.specs.Prelude.{ℕ, ◌≡◌, List, Result, Ok, Err}
use Rattle.m88_base.specs.Image.{ProgramImage}
use Rattle.m88_base.specs.Refusal.{Refusal}
use Rattle.m88_srec.specs.Accepted.{IsAccepted, Whole, whole_of}
use Rattle.m88_srec.specs.Reasons.{srec_reason}
use Rattle.m88_srec.specs.Verdict.{IsFirstSrecFault}
use Rattle.m88_srec.specs.declared.fault.SrecFault.{SrecFault}

-- the text is accepted: it writes bytes at addresses and a start address
abbrev pub IsRecords : List ℕ → Type 0
IsRecords text = (whole : Whole) × IsAccepted text whole

-- the refusal for a fault, told at column 1 of its line
abbrev pub srec_refusal : SrecFault → Refusal
srec_refusal fault = record { line = fault.line; column = 1; reason = srec_reason fault.kind }

-- the text is refused at its first fault
pub record IsRefusedRecords (text : List ℕ) (r : Refusal) : Type 0 where
  pub fault : SrecFault
  pub is_first : IsFirstSrecFault text fault
  pub refusal : r ≡ srec_refusal fault

-- the text writes the image, or is refused so
abbrev pub AreRecordsOf : Result ProgramImage Refusal → List ℕ → Type 0
AreRecordsOf (Ok image) text = IsAccepted text (whole_of image)
AreRecordsOf (Err refusal) text = IsRefusedRecords text refusal
