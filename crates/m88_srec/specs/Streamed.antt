-- What it means that a source of S-records was read to its end (Motorola S-record format).
use Rattle.std.specs.Prelude.{ℕ, List, Option, Result, Ok, Err, ◌≤◌, length}
use Rattle.std.specs.Io.KnownBytes.{Consumes, IsAtEnd}
use Rattle.m88_srec.specs.declared.fault.SrecFault.{SrecFault}
use Rattle.m88_srec.specs.declared.load_end.LoadEnd.{LoadEnd}
use Rattle.m88_srec.specs.declared.load_end.LoadEnd.TheVariants.{Refused}

-- a source, with these bytes left before and those after, was read to its end, at most max bytes, and something holds
-- of all that it had
pub record ReadsText (before after : Option (List ℕ)) (max : ℕ) (Holds : List ℕ → Type 0) : Type 0 where
  pub text : List ℕ
  pub taken : Consumes before after text
  pub ended : IsAtEnd after
  pub few : length text ≤ max
  pub holds : Holds text

-- something holds of the fault for which a text was refused
abbrev pub WhereRefused : (SrecFault → Type 0) → LoadEnd → Type 0
WhereRefused P (Refused fault) = P fault
WhereRefused P _ = Unit {0}

-- something holds where a source was read to its end: an image came of it, or its text was refused
abbrev pub OnText : {T : Type 0} → Result T LoadEnd → Type 0 → Type 0
OnText (Ok x) P = P
OnText (Err end) P = WhereRefused (λ fault. P) end
