-- What is fed of a source, and what comes of it at its end.
use Rattle.std.specs.Prelude.{ℕ, List, Result, Err, ◌≡◌, ◌≢◌, ◌+◌, ◌++◌, length, IfErr, IfOk}
use Rattle.m88_base.specs.Image.{ProgramImage}
use Rattle.m88_srec.specs.Accepted.{IsAccepted, whole_of}
use Rattle.m88_srec.specs.Fed.{IsFed, LoaderView}
use Rattle.m88_srec.specs.Streamed.{WhereRefused}
use Rattle.m88_srec.specs.Verdict.{IsFirstSrecFault}
use Rattle.m88_srec.specs.declared.load_end.LoadEnd.{LoadEnd}
use Rattle.m88_srec.specs.declared.load_end.LoadEnd.TheVariants.{SourceFault, TooLong}

-- a loader was fed a piece more
pub record TakesFed (piece : List ℕ) (before after : LoaderView) : Type 0 where
  pub total : after.total ≡ before.total + length piece
  pub fed : (text : List ℕ) → IsFed text before → IsFed (text ++ piece) after

-- what a loader was fed was the whole text: an image that it writes, or its first fault, or memory ran out
pub record EndsText (loader : LoaderView) (result : Result ProgramImage LoadEnd) : Type 0 where
  pub ok : IfOk result (λ image. (text : List ℕ) → IsFed text loader → IsAccepted text (whole_of image))
  pub refused : IfErr result (WhereRefused (λ fault. (text : List ℕ) → IsFed text loader → IsFirstSrecFault text fault))
  pub whole : (result ≢ Err TooLong) × (result ≢ Err SourceFault)
