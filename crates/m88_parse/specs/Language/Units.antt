-- A source and its unit: the lines, the tokens of each, and the modules of what they say (sources and
-- modules of the assembly language).
use Rattle.std.specs.Prelude.{ℕ, ◌+◌, List, [], ◌∷◌, codes}
use Rattle.m88_base.specs.Lines.{lines_of}
use Rattle.m88_parse.specs.declared.unit.Statement.{Statement}
use Rattle.m88_parse.specs.declared.unit.Module.{Module}
use Rattle.m88_parse.specs.declared.unit.Unit.{Unit as Source}
use Rattle.m88_parse.specs.Language.Pieces.{Piece}
use Rattle.m88_parse.specs.Language.Tokens.{LineTokens}
use Rattle.m88_parse.specs.Language.Statements.{IsStatement, IsHead}

-- what a line says: nothing, a statement, or that a module of this name begins
pub data Said : Type 0 where
  says_nothing : Said
  says : Statement → Said
  begins : List ℕ → Said

-- what the tokens of a line say, with the line's number
pub data LineSays (number : ℕ) : List Piece → Said → Type 0 where
  empty_line : LineSays number [] says_nothing
  statement_line : {ps : List Piece} {s : Statement} → IsStatement number ps s → LineSays number ps (says s)
  module_line : {ps : List Piece} {name : List ℕ} → IsHead ps name → LineSays number ps (begins name)

-- the statements of the lines before the first .module, and the modules that begin there; the lines' numbers go on
-- from one
pub data AreRows : ℕ → List (List ℕ) → List Statement → List Module → Type 0 where
  no_row : {number : ℕ} → AreRows number [] [] []
  row_of_nothing : {number : ℕ} {line : List ℕ} {lines : List (List ℕ)} {ps : List Piece}
      {ss : List Statement} {ms : List Module}
      → LineTokens line ps → LineSays number ps says_nothing → AreRows (number + 1) lines ss ms
      → AreRows number (line ∷ lines) ss ms
  row_of_statement : {number : ℕ} {line : List ℕ} {lines : List (List ℕ)} {ps : List Piece} {s : Statement}
      {ss : List Statement} {ms : List Module}
      → LineTokens line ps → LineSays number ps (says s) → AreRows (number + 1) lines ss ms
      → AreRows number (line ∷ lines) (s ∷ ss) ms
  row_of_module : {number : ℕ} {line : List ℕ} {lines : List (List ℕ)} {ps : List Piece} {name : List ℕ}
      {ss : List Statement} {ms : List Module}
      → LineTokens line ps → LineSays number ps (begins name) → AreRows (number + 1) lines ss ms
      → AreRows number (line ∷ lines) [] (record { name = name; line = number; statements = ss } ∷ ms)

-- where statements stand before the first .module, or there is none, they are a module main that begins in line 1
pub data AreModules : List Statement → List Module → List Module → Type 0 where
  only_main : {ss : List Statement} → AreModules ss [] (record { name = codes "main"; line = 1; statements = ss } ∷ [])
  first_main : {s : Statement} {ss : List Statement} {m : Module} {ms : List Module}
      → AreModules (s ∷ ss) (m ∷ ms) (record { name = codes "main"; line = 1; statements = s ∷ ss } ∷ m ∷ ms)
  no_main : {m : Module} {ms : List Module} → AreModules [] (m ∷ ms) (m ∷ ms)

-- the unit of a source
pub record IsUnit (source : List ℕ) (unit : Source) : Type 0 where
  pub statements : List Statement
  pub modules : List Module
  pub are_rows : AreRows 1 (lines_of source) statements modules
  pub are_modules : AreModules statements modules unit.modules
