-- What one more statement behind a word of code changes in the source of an image.
use Rattle.std.specs.Prelude.{◌≡◌, ℕ, ℤ, ◌+◌, ◌<◌, ◌≤◌, List, [], ◌∷◌, Option, None, Some, IsSome, ◌==◌, if◌then◌else◌}
use Rattle.m88_base.specs.Image.{ProgramImage, byte_at}
use Rattle.m88_base.specs.Lines.{IsOneLine}
use Rattle.m88_isa.specs.ImageProgram.{HasWordOf}
use Rattle.m88_isa.specs.declared.instr.Instr.{Instr}
use Rattle.m88_parse.specs.Language.Pieces.{Piece}
use Rattle.m88_parse.specs.Language.Statements.{IsStatement}
use Rattle.m88_parse.specs.Language.Tokens.{LineTokens}
use Rattle.m88_parse.specs.Language.Units.{IsUnit}
use Rattle.m88_parse.specs.declared.unit.Statement.{Statement}
use Rattle.m88_parse.specs.declared.unit.Unit.{Unit as Source}
use Rattle.m88_asm.specs.Accepted.{IsAcceptedUnit}
use Rattle.m88_asm.specs.Counters.{length_at}
use Rattle.m88_asm.specs.Images.{unit_byte, unit_start}
use Rattle.m88_sourcing.specs.Code.{InCode, IsCode, HoldsInstruction}
use Rattle.m88_sourcing.specs.Flow.{branch_target}
use Rattle.m88_sourcing.specs.Said.{Said, Stays}
use Rattle.m88_sourcing.specs.Source.{IsSourceWith}
use Rattle.m88_sourcing.specs.Targets.{counting}

-- an address behind the word of code at w in its piece: from w up to it is nothing but code, and behind w no word that
-- stays where it is
abbrev pub IsCarriedBy : ProgramImage → Said → ℕ → ℕ → Type 0
IsCarriedBy image said w a =
    (w + 4 ≤ a) × ((b : ℕ) → w ≤ b → b ≤ a → InCode image said b) × ((b : ℕ) → w < b → b ≤ a → ¬ Stays said b)

-- where an address is found again: four bytes further on behind w in its piece, else where it was
pub data IsAgainAt (image : ProgramImage) (said : Said) (w : ℕ) : ℕ → ℕ → Type 0 where
  carried : {a : ℕ} → IsCarriedBy image said w a → IsAgainAt image said w a (a + 4)
  stays : {a : ℕ} → ¬ IsCarriedBy image said w a → IsAgainAt image said w a a

-- both have no target, or the second's is where the first's is found again
abbrev pub LeadsAgain : ProgramImage → Said → ℕ → Option ℕ → Option ℕ → Type 0
LeadsAgain image said w None t = t ≡ None
LeadsAgain image said w (Some s) None = ⊥
LeadsAgain image said w (Some s) (Some t) = IsAgainAt image said w s t

-- an instruction that is code is found again, and its target is where the old one is found again
pub record IsFoundAgain (image : ProgramImage) (said : Said) (w : ℕ) (byte : ℕ → Option ℕ) (a : ℕ) (i : Instr)
    : Type 0 where
  pub at : ℕ
  pub words : ℤ
  pub found : IsAgainAt image said w a at
  pub stands : HasWordOf byte at (counting words i)
  pub leads : LeadsAgain image said w (branch_target a i) (branch_target at (counting words i))

-- the source with one more statement in the line behind that of the word of code at w: it has four bytes wherever it
-- stands, and no label
pub record IsInserted (image : ProgramImage) (said : Said) (w : ℕ) (longer : List ℕ) : Type 0 where
  pub line : List ℕ
  pub is_line : IsOneLine line
  pub number : ℕ
  pub tokens : List Piece
  pub statement : Statement
  pub are_tokens : LineTokens line tokens
  pub states : IsStatement number tokens statement
  pub unlabelled : statement.label ≡ None
  pub four : (place : ℕ) → length_at place statement.body ≡ 4
  pub source : IsSourceWith (λ a. if a == w then line ∷ [] else []) image said longer

-- every byte that is no code is where it was, and every instruction that is code is found again, the first one too
pub record MovesCodeAlone (image : ProgramImage) (said : Said) (w : ℕ) (unit : Source) : Type 0 where
  pub stays : (a : ℕ) → IsSome (byte_at image a) → ¬ InCode image said a → unit_byte unit a ≡ byte_at image a
  pub found : (a : ℕ) (i : Instr) → IsCode image said a → HoldsInstruction image a i
      → IsFoundAgain image said w (unit_byte unit) a i
  pub start : IsCode image said image.start → IsAgainAt image said w image.start (unit_start unit)

-- so it is wherever such a longer source is accepted
abbrev pub KeepsItsBranches : ProgramImage → Said → Type 0
KeepsItsBranches image said =
    (w : ℕ) (longer : List ℕ) (unit : Source) → IsCode image said w → IsInserted image said w longer
    → IsUnit longer unit → IsAcceptedUnit unit → MovesCodeAlone image said w unit
