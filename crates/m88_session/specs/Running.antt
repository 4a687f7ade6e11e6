-- What is made of the program that an image holds.
use Rattle.std.specs.Prelude.{◌≡◌, Result, IfOk, OnErr}
use Rattle.m88_base.specs.Image.{IsImage, ProgramImage}
use Rattle.m88_isa.specs.ImageProgram.{IsProgramOf}
use Rattle.m88_isa.specs.Machine.{Program}
use Rattle.m88_session.specs.Settings.{Settings}

-- this holds of each program that an image holds, in a mode: there is one
abbrev pub OfImage : ProgramImage → Settings → (Program → Type 0) → Type 0
OfImage image s Holds = (p : Program) → IsProgramOf image p → p.mxm ≡ s.mxm → Holds p

-- the program of an image is gone along: something is made of it, or memory ran out behind its first events
pub record GoesAlong {T E : Type 0} (image : ProgramImage) (s : Settings) (IsMade : T → Program → Type 0)
    (IsFront : Program → Type 0) (result : Result T E) : Type 0 where
  pub is_image : IsImage image
  pub made : IfOk result (λ x. OfImage image s (IsMade x))
  pub front : OnErr result (OfImage image s IsFront)
