-- What a source is linked into, and what several are.
use Rattle.std.specs.Prelude.{ℕ, List, [], ◌∷◌, Option}
use Rattle.m88_base.specs.Image.{ProgramImage, byte_at}
use Rattle.m88_isa.specs.ImageProgram.{IsInstructionAt}
use Rattle.m88_isa.specs.declared.instr.Instr.{Instr}
use Rattle.m88_parse.specs.Language.Units.{IsUnit}
use Rattle.m88_parse.specs.declared.unit.Unit.{Unit as Source}
use Rattle.m88_asm.specs.Accepted.{IsAcceptedUnit}
use Rattle.m88_asm.specs.Several.{PlacedSource}
use Rattle.m88_asm.specs.Images.{IsUnitImage, IsUnitInstruction}

-- the image is that of the source's unit, which is accepted, and where the unit has an instruction it has the word of
-- that one
pub record HoldsUnit (source : List ℕ) (image : ProgramImage) : Type 0 where
  pub unit : Source
  pub is_unit : IsUnit source unit
  pub is_accepted : IsAcceptedUnit unit
  pub is_image : IsUnitImage unit image
  pub instructions : (a : ℕ) (instruction : Option Instr) → IsUnitInstruction unit a instruction
      → IsInstructionAt (byte_at image) a instruction

-- each image holds the unit of the source in its place
unfoldable pub HoldEach : List PlacedSource → List ProgramImage → Type 0
HoldEach [] [] = Unit {0}
HoldEach [] (image ∷ images) = ⊥
HoldEach (s ∷ sources) [] = ⊥
HoldEach (s ∷ sources) (image ∷ images) = HoldsUnit s.source image × HoldEach sources images
