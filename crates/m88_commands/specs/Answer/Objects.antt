-- What `link` writes of the text of objects: the S-records of the image that the objects are linked into.
use Rattle.std.specs.Prelude.{ℕ, ◌≡◌, List}
use Rattle.m88_base.specs.Image.{ProgramImage}
use Rattle.m88_asm.specs.LinkedTexts.{IsImageOfObjects}
use Rattle.m88_srec.specs.Written.{srec_text}

-- the output is the S-records of the image of the text's objects
pub record IsLinkedText (text output : List ℕ) : Type 0 where
  pub image : ProgramImage
  pub of_objects : IsImageOfObjects text image
  pub is_output : output ≡ srec_text image
