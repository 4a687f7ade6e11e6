-- What the assembly language and its layout make of a text: a line that is one statement without a label, and a source
-- that writes an image.
use Rattle.std.specs.Prelude.{◌≡◌, ℕ, List, [], ◌∷◌, None}
use Rattle.m88_asm.specs.Accepted.{IsAcceptedUnit}
use Rattle.m88_asm.specs.Images.{unit_byte, unit_start}
use Rattle.m88_base.specs.Image.{ProgramImage, byte_at}
use Rattle.m88_isa.specs.Word.{word_of}
use Rattle.m88_isa.specs.declared.instr.Instr.{Instr}
use Rattle.m88_isa.specs.declared.instr.Instr.TheVariants.{Sfu}
use Rattle.m88_parse.specs.Language.Pieces.{Piece}
use Rattle.m88_parse.specs.Language.Statements.{IsStatement}
use Rattle.m88_parse.specs.Language.Tokens.{LineTokens}
use Rattle.m88_parse.specs.Language.Units.{IsUnit}
use Rattle.m88_parse.specs.declared.unit.Body.{Body}
use Rattle.m88_parse.specs.declared.unit.Body.TheVariants.{Word, Code}
use Rattle.m88_parse.specs.declared.unit.Statement.{Statement}
use Rattle.m88_parse.specs.declared.unit.Unit.{Unit as Source}
use Rattle.m88_parse.specs.declared.unit.Value.TheVariants.{Number}

-- a statement at the beginning of a line, without a label
abbrev pub unlabelled : ℕ → Body → Statement
unlabelled number said = record { line = number; label = None; col = 1; body = said }

-- the line of this number is such a statement
pub record IsReadAs (number : ℕ) (line : List ℕ) (said : Body) : Type 0 where
  pub tokens : List Piece
  pub are_tokens : LineTokens line tokens
  pub statement : IsStatement number tokens (unlabelled number said)

-- what the text of an instruction says: the instruction; a word of a special function unit is given as a word
abbrev pub said_body : Instr → Body
said_body (Sfu unit rest) = Word (Number (word_of (Sfu unit rest)) ∷ [])
said_body i = Code i None

-- a source that has an accepted unit with this image: the same bytes at the same addresses, and the same start
pub record WritesImage (source : List ℕ) (image : ProgramImage) : Type 0 where
  pub unit : Source
  pub is_unit : IsUnit source unit
  pub accepted : IsAcceptedUnit unit
  pub bytes : (a : ℕ) → unit_byte unit a ≡ byte_at image a
  pub start : unit_start unit ≡ image.start
