-- The tokens of a line: a line is gaps and the texts of its tokens in turn, up to a comment or its end (tokens of the
-- assembly language). Nothing here goes along the line byte by byte.
use Rattle.std.specs.Prelude.{ℕ, true, false, ◌≡◌, ◌≢◌, ◌⊎◌, ◌+◌, ◌<◌, ◌^◌, List, [], ◌∷◌, ◌++◌, length, map}
use Rattle.std.specs.List.{list_all}
use Rattle.std.specs.Str.Parse.{digits_value}
use Rattle.m88_base.specs.Name.{IsName, continues_name}
use Rattle.m88_parse.specs.Language.Bytes.{single_quote, double_quote, backslash, is_blank, is_comment, is_plain, is_mark, is_escape, escape_value, are_digits}
use Rattle.m88_parse.specs.Language.Pieces.{TokenValue, a_name, a_number, a_text, a_mark, Piece, PlainToken, token_of}

-- blanks alone, or nothing
abbrev pub IsGap : List ℕ → Type 0
IsGap bs = list_all is_blank bs ≡ true

-- nothing, or a comment
abbrev pub IsTail : List ℕ → Type 0
IsTail [] = Unit {0}
IsTail (b ∷ bs) = is_comment b ≡ true

-- letters, digits, _ . $ alone
abbrev pub AreNameBytes : List ℕ → Type 0
AreNameBytes bs = list_all continues_name bs ≡ true

-- no letter, digit, _ . $ comes first
abbrev pub BeginsWithNoNameByte : List ℕ → Type 0
BeginsWithNoNameByte [] = Unit {0}
BeginsWithNoNameByte (b ∷ bs) = continues_name b ≡ false

-- the first of several digits is no 0
abbrev pub HasNoNeedlessZero : List ℕ → Type 0
HasNoNeedlessZero (d ∷ e ∷ ds) = d ≢ 48
HasNoNeedlessZero ds = Unit {0}

-- decimal digits of a number
pub record IsDecimal (text : List ℕ) (n : ℕ) : Type 0 where
  pub some : 0 < length text
  pub digits : are_digits 10 text ≡ true
  pub short : HasNoNeedlessZero text
  pub value : n ≡ digits_value 10 text

-- 0x and hexadecimal digits of a number
pub record IsHexadecimal (text : List ℕ) (n : ℕ) : Type 0 where
  pub digits : List ℕ
  pub bytes : text ≡ 48 ∷ 120 ∷ digits
  pub some : 0 < length digits
  pub hexadecimal : are_digits 16 digits ≡ true
  pub value : n ≡ digits_value 16 digits

-- the digits of a number, decimal or hexadecimal
abbrev pub IsNumeral : List ℕ → ℕ → Type 0
IsNumeral text n = IsDecimal text n ⊎ IsHexadecimal text n

-- what stands between two quotes, and the bytes that it stands for: each byte stands for itself, but for a backslash,
-- which stands with the byte behind it for the byte of that escape
pub data Holds (quote : ℕ) : List ℕ → List ℕ → Type 0 where
  nothing : Holds quote [] []
  itself : {b : ℕ} {inside bytes : List ℕ} → is_plain b ≡ true → b ≢ backslash → b ≢ quote → Holds quote inside bytes
      → Holds quote (b ∷ inside) (b ∷ bytes)
  escape : {e : ℕ} {inside bytes : List ℕ} → is_escape e ≡ true → Holds quote inside bytes
      → Holds quote (backslash ∷ e ∷ inside) (escape_value e ∷ bytes)

-- two quotes of a kind, and bytes between them
pub record IsQuoted (quote : ℕ) (text bytes : List ℕ) : Type 0 where
  pub inside : List ℕ
  pub text_is : text ≡ quote ∷ inside ++ quote ∷ []
  pub holds : Holds quote inside bytes

-- the text of a token and what it stands for: a name is its bytes, of which there are at most 64; a number is below
-- 2^32; exactly one byte or escape in single quotes is a number; a text stands in double quotes
abbrev pub IsToken : List ℕ → TokenValue → Type 0
IsToken text (a_name name) = (text ≡ name) × IsName name
IsToken text (a_number n) = (IsNumeral text n × (n < 2 ^ 32)) ⊎ IsQuoted single_quote text (n ∷ [])
IsToken text (a_text bytes) = IsQuoted double_quote text bytes
IsToken text (a_mark m) = (text ≡ m ∷ []) × (is_mark m ≡ true)

-- a gap and a token stand at the front of the bytes from a column on, and the rest behind them; a name or a number is
-- as long as it can be
pub record Begins (col : ℕ) (bytes : List ℕ) (p : Piece) (rest : List ℕ) : Type 0 where
  pub gap : List ℕ
  pub bytes_are : bytes ≡ gap ++ (p.text ++ rest)
  pub blank : IsGap gap
  pub place : p.col ≡ col + length gap
  pub token : IsToken p.text p.says
  pub longest : AreNameBytes p.text → BeginsWithNoNameByte rest

-- nothing but a gap and perhaps a comment
pub record IsEmpty (bytes : List ℕ) : Type 0 where
  pub gap : List ℕ
  pub tail : List ℕ
  pub bytes_are : bytes ≡ gap ++ tail
  pub blank : IsGap gap
  pub comment : IsTail tail

-- the bytes from a column on are gaps and these tokens in turn
abbrev pub AreTokens : ℕ → List ℕ → List Piece → Type 0
AreTokens col bytes [] = IsEmpty bytes
AreTokens col bytes (p ∷ ps) = (rest : List ℕ) × Begins col bytes p rest × AreTokens (p.col + length p.text) rest ps

-- the tokens of a whole line, whose first column is 1
abbrev pub LineTokens : List ℕ → List Piece → Type 0
LineTokens line ps = AreTokens 1 line ps

-- the tokens of a whole line as the public call gives them: with the line's number, and each with its kind alone
abbrev pub AreTokensOf : ℕ → List ℕ → List PlainToken → Type 0
AreTokensOf number line ts = (ps : List Piece) × LineTokens line ps × (ts ≡ map (token_of number) ps)
