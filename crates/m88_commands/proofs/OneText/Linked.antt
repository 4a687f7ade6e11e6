-- The records of the image that a source is linked into answer it.
use Rattle.std.proofs.Common.{◌≡◌, ◌<◌, ◌≤◌, ◌^◌, List, ℕ, length, arith}
use Rattle.m88_asm.specs.Accepted.{IsAcceptedUnit}
use Rattle.m88_asm.specs.Images.{IsUnitImage}
use Rattle.m88_base.specs.Image.{ProgramImage}
use Rattle.m88_parse.specs.Language.Units.{IsUnit}
use Rattle.m88_parse.specs.declared.unit.Unit.{Unit as Source}
use Rattle.m88_srec.specs.Written.{srec_text}
use Rattle.m88_commands.specs.Answer.{IsAnswerToAccepted}
use Rattle.m88_commands.specs.Command.{build}
use Rattle.m88_commands.specs.Limits.{most_input}

-- an input is short enough for the assembler
pub readable : (source : List ℕ) → length source ≤ most_input → length source < 2 ^ 31
readable source short = omega (arith, short)

pub recorded : (source text : List ℕ) (u : Source) (image : ProgramImage) → IsUnit source u → IsAcceptedUnit u
    → IsUnitImage u image → text ≡ srec_text image → IsAnswerToAccepted build source text
recorded source text u image is_unit is_accepted own is = record {
  accepted = record { unit = u; is_unit = is_unit; is_accepted = is_accepted };
  output = record {
    image = image;
    of_source = record { unit = u; is_unit = is_unit; is_image = own };
    is_text = is;
  };
}
