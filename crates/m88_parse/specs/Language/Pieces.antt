-- A token as a piece of its line: its bytes, its column, counted from 1, and its value (tokens of the assembly
-- language).
use Rattle.std.specs.Prelude.{ℕ, ◌≡◌, ◌-◌, List, length, take, drop}
use Rattle.m88_parse.specs.declared.token.TokenKind.{TokenKind}
use Rattle.m88_parse.specs.declared.token.TokenKind.TheVariants as kinds
use Rattle.m88_parse.specs.declared.token.Token.{Token}

-- what a token stands for: a name, a number, the bytes of a text, or a mark
pub data TokenValue : Type 0 where
  a_name : List ℕ → TokenValue
  a_number : ℕ → TokenValue
  a_text : List ℕ → TokenValue
  a_mark : ℕ → TokenValue

-- a token of a line, without where it lies in memory
pub record Piece : Type 0 where
  pub text : List ℕ
  pub col : ℕ
  pub says : TokenValue

-- the kind of a token by what it says
abbrev pub token_kind : TokenValue → TokenKind
token_kind (a_name _) = kinds.Name
token_kind (a_number _) = kinds.Number
token_kind (a_text _) = kinds.Text
token_kind (a_mark _) = kinds.Mark

-- a token of the public call without where its bytes lie in memory.
pub record PlainToken : Type 0 where
  pub text : List ℕ
  pub line : ℕ
  pub col : ℕ
  pub kind : TokenKind

-- the same of a token that the call gave
abbrev pub plain_token : Token → PlainToken
plain_token t = record { text = t.text.now; line = t.line; col = t.col; kind = t.kind }

-- the same of a piece of a line with this number
abbrev pub token_of : ℕ → Piece → PlainToken
token_of line p = record { text = p.text; line = line; col = p.col; kind = token_kind p.says }

-- these bytes stand in the line at the column
abbrev pub IsSlice : List ℕ → List ℕ → ℕ → Type 0
IsSlice line text col = text ≡ take (length text) (drop (col - 1) line)

-- the bytes of the token are those of the line at its column
abbrev pub IsTokenOf : List ℕ → Token → Type 0
IsTokenOf line t = IsSlice line t.text.now t.col
