-- What `asm` and `build` write of a source. `asm` writes the text of the objects of the source's unit; linking has no
-- say in it. `build` links them too, and writes the S-records of the unit's image.
use Rattle.std.specs.Prelude.{ℕ, ◌≡◌, List}
use Rattle.m88_base.specs.Image.{ProgramImage}
use Rattle.m88_parse.specs.Language.Units.{IsUnit}
use Rattle.m88_parse.specs.declared.unit.Unit.{Unit as Source}
use Rattle.m88_link.specs.ObjectText.{objects_text}
use Rattle.m88_asm.specs.Objects.{objects_of}
use Rattle.m88_asm.specs.Sources.{IsSourceImage}
use Rattle.m88_srec.specs.Written.{srec_text}

-- the text is that of the objects of the source's unit
pub record IsObjectText (source text : List ℕ) : Type 0 where
  pub unit : Source
  pub is_unit : IsUnit source unit
  pub is_text : text ≡ objects_text (objects_of unit)

-- the text is the S-records of the source's image
pub record IsRecordText (source text : List ℕ) : Type 0 where
  pub image : ProgramImage
  pub of_source : IsSourceImage source image
  pub is_text : text ≡ srec_text image
