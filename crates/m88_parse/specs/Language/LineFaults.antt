-- The fault of a line whose tokens are neither a statement nor the head of a module. Whether a line has a label is
-- told first: it has one where its second token is a colon. The operation is what is left, and its fault is at the
-- first token that no operation continues, where the end of the line is a token just after the last one. Two faults
-- are a token earlier: that of a number at its own sign, and that of hi16 or lo16 with no ( behind it (lines,
-- statements and operands of the assembly language).
use Rattle.std.specs.Prelude.{ℕ, ◌≡◌, ◌+◌, List, [], ◌∷◌, ◌++◌, length, Some, codes}
use Rattle.m88_base.specs.declared.fixup.Kind.{Kind}
use Rattle.m88_parse.specs.declared.fault.ParseKind.{ParseKind}
use Rattle.m88_parse.specs.declared.fault.ParseKind.TheVariants.{Syntax, NoSuchName, OutOfRange}
use Rattle.m88_parse.specs.declared.unit.Body.{Body}
use Rattle.m88_parse.specs.Language.Bytes.{opening_parenthesis, minus_mark, colon_mark}
use Rattle.m88_parse.specs.Language.Words.{half_named}
use Rattle.m88_parse.specs.Language.Pieces.{Piece}
use Rattle.m88_parse.specs.Language.Names.{IsMark, IsNumber, IsNamed, IsSymbol}
use Rattle.m88_parse.specs.Language.Statements.{IsBody, IsHead, IsLabel, BeginsWithNoColon}

-- an operation with its operands, or the head of a module
pub data IsOperation : List Piece → Type 0 where
  operation : {ps : List Piece} {said : Body} → IsBody ps said → IsOperation ps
  head_of_module : {ps : List Piece} {name : List ℕ} → IsHead ps name → IsOperation ps

-- with more tokens behind them, or with none, these are an operation
abbrev pub Continues : List Piece → Type 0
Continues front = (rest : List Piece) × IsOperation (front ++ rest)

-- this token may stand directly behind these
abbrev pub MayFollow : List Piece → Piece → Type 0
MayFollow front p = Continues (front ++ p ∷ [])

-- some number may
abbrev pub NumberMayFollow : List Piece → Type 0
NumberMayFollow front = (p : Piece) × (n : ℕ) × IsNumber n p × MayFollow front p

-- some name may
abbrev pub NameMayFollow : List Piece → Type 0
NameMayFollow front = (p : Piece) × (name : List ℕ) × IsNamed name p × MayFollow front p

-- every symbol may
abbrev pub EverySymbolMayFollow : List Piece → Type 0
EverySymbolMayFollow front = (p : Piece) (name : List ℕ) → IsSymbol name p → MayFollow front p

-- a number where some number may stand
abbrev pub IsNumberInPlace : List Piece → Piece → Type 0
IsNumberInPlace front p = (n : ℕ) × IsNumber n p × NumberMayFollow front

-- a name where some name may stand, but not every symbol: the place of an operation, a register, a control register, a
-- bit, a mask or half of a value
abbrev pub IsNameInPlace : List Piece → Piece → Type 0
IsNameInPlace front p = (name : List ℕ) × IsNamed name p × NameMayFollow front × (EverySymbolMayFollow front → ⊥)

-- the last of these tokens is a - that is a number's own sign: the number could stand in its place
pub record EndsInSign (front : List Piece) (m : Piece) : Type 0 where
  pub before : List Piece
  pub tokens : front ≡ before ++ m ∷ []
  pub minus : IsMark minus_mark m
  pub number : NumberMayFollow before

-- the last of these tokens is no sign of a number
abbrev pub EndsInNoSign : List Piece → Type 0
EndsInNoSign front = (m : Piece) → EndsInSign front m → ⊥

-- the last of these tokens is hi16 or lo16, where ( may follow
pub record EndsInHalf (front : List Piece) (h : Piece) : Type 0 where
  pub before : List Piece
  pub tokens : front ≡ before ++ h ∷ []
  pub name : List ℕ
  pub kind : Kind
  pub named : IsNamed name h
  pub half : half_named name ≡ Some kind
  pub opens : (o : Piece) × IsMark opening_parenthesis o × MayFollow front o

-- the last of these tokens is not one of the two where ( may follow
abbrev pub EndsInNoHalf : List Piece → Type 0
EndsInNoHalf front = (h : Piece) → EndsInHalf front h → ⊥

-- the column and the kind of the fault of a token that may not follow these: a number is out of range at its own
-- sign, if it has one
pub data IsMisplaced (front : List Piece) (p : Piece) : ℕ → ParseKind → Type 0 where
  number_out_of_range : IsNumberInPlace front p → EndsInNoSign front → IsMisplaced front p p.col OutOfRange
  signed_out_of_range : {m : Piece} → IsNumberInPlace front p → EndsInSign front m
      → IsMisplaced front p m.col OutOfRange
  no_such_name : IsNameInPlace front p → IsMisplaced front p p.col NoSuchName
  other_token : (IsNumberInPlace front p → ⊥) → (IsNameInPlace front p → ⊥) → IsMisplaced front p p.col Syntax

-- the fault where these tokens can't go on with what is left of the line: at the last of them, where it is hi16 or
-- lo16, which are ordinary names where no ( follows, and else at the next token, or just after the line's last one
pub data IsFaultBehind (front : List Piece) : List Piece → ℕ → ParseKind → Type 0 where
  half_alone : {rest : List Piece} {h : Piece} → EndsInHalf front h → IsFaultBehind front rest h.col NoSuchName
  misplaced : {p : Piece} {rest : List Piece} {at : ℕ} {kind : ParseKind} → EndsInNoHalf front
      → IsMisplaced front p at kind → IsFaultBehind front (p ∷ rest) at kind
  line_ends : (before : List Piece) (p : Piece) → EndsInNoHalf front → front ≡ before ++ p ∷ []
      → IsFaultBehind front [] (p.col + length p.text) Syntax

-- no operation goes on with what is left of the line
abbrev pub Stops : List Piece → List Piece → Type 0
Stops front [] = IsOperation front → ⊥
Stops front (p ∷ rest) = MayFollow front p → ⊥

-- tokens that are no operation, and the fault of the first one that no operation continues
pub record IsBroken (ps : List Piece) (at : ℕ) (kind : ParseKind) : Type 0 where
  pub front : List Piece
  pub rest : List Piece
  pub tokens : ps ≡ front ++ rest
  pub continues : Continues front
  pub stops : Stops front rest
  pub fault : IsFaultBehind front rest at kind

-- the column and the kind of the fault of a line's tokens: what stands before a colon has to be a symbol, and behind a
-- label .module is a fault whatever follows
pub data IsLineFault : List Piece → ℕ → ParseKind → Type 0 where
  no_label : {l c : Piece} {ps : List Piece} → IsMark colon_mark c → ((name : List ℕ) → IsSymbol name l → ⊥)
      → IsLineFault (l ∷ c ∷ ps) l.col Syntax
  labelled_head : {l c p : Piece} {ps : List Piece} {name : List ℕ} → IsLabel l c name → IsNamed (codes ".module") p
      → IsLineFault (l ∷ c ∷ p ∷ ps) p.col Syntax
  behind_label : {l c p : Piece} {ps : List Piece} {name : List ℕ} {at : ℕ} {kind : ParseKind}
      → IsLabel l c name → (IsNamed (codes ".module") p → ⊥) → IsBroken (p ∷ ps) at kind
      → IsLineFault (l ∷ c ∷ p ∷ ps) at kind
  without_label : {p : Piece} {ps : List Piece} {at : ℕ} {kind : ParseKind} → BeginsWithNoColon ps
      → IsBroken (p ∷ ps) at kind → IsLineFault (p ∷ ps) at kind
