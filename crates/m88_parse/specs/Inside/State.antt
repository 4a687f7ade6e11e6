-- Where the reading of a statement stands: the tokens of its line that are left.
use Rattle.std.specs.Prelude.{ℕ, Bool, false, List, [], ◌∷◌, ◌==◌, drop, Option, Some, None, Result, Ok, Err}
use Rattle.m88_parse.specs.declared.fault.ParseKind.{ParseKind}
use Rattle.m88_parse.specs.declared.fault.ParseFault.{ParseFault}
use Rattle.m88_parse.specs.Language.Pieces.{TokenValue, a_mark, Piece}

-- the line's number, the column just after its last token, and the tokens that are left
pub record ReaderState : Type 0 where
  pub line : ℕ
  pub end_col : ℕ
  pub rest : List Piece

-- what the first of some tokens says
abbrev pub says_first : List Piece → Option TokenValue
says_first [] = None
says_first (p ∷ ps) = Some p.says

-- what the next token says
abbrev pub first : ReaderState → Option TokenValue
first s = says_first s.rest

-- what the token behind it says
abbrev pub second : ReaderState → Option TokenValue
second s = says_first (drop 1 s.rest)

-- the column of the first of some tokens, or the one just after a line's last token
abbrev pub col_of : ℕ → List Piece → ℕ
col_of end_col [] = end_col
col_of end_col (p ∷ ps) = p.col

-- the column of the next token; the end of the line is a token just after the last one
abbrev pub place : ReaderState → ℕ
place s = col_of s.end_col s.rest

-- behind the next token
abbrev pub past : ReaderState → ReaderState
past s = record { line = s.line; end_col = s.end_col; rest = drop 1 s.rest }

-- the fault of this kind at the next token
abbrev pub fault : ParseKind → ReaderState → ParseFault
fault kind s = record { line = s.line; col = place s; kind = kind }

-- the next token is that fault
abbrev pub trouble : {A : Type 0} → ParseKind → ReaderState → Result A ParseFault
trouble kind s = Err (fault kind s)

-- whether what a token says is this mark
abbrev pub is_mark_of : ℕ → Option TokenValue → Bool
is_mark_of m (Some (a_mark b)) = b == m
is_mark_of m _ = false

-- whether the next token is this mark
abbrev pub is_next_mark : ℕ → ReaderState → Bool
is_next_mark m s = is_mark_of m (first s)

infixl 10 ◌>>=◌
-- the first fault of two readings in turn, or what the second gives
abbrev pub ◌>>=◌ : {A B : Type 0} → Result A ParseFault → (A → Result B ParseFault) → Result B ParseFault
(Ok x) >>= f = f x
(Err e) >>= f = Err e
