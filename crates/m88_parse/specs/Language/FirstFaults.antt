-- The first fault of a source: in the first line that says nothing that can be said, the first place that can't be cut
-- into tokens, or else the fault of its tokens (lines and tokens of the assembly language).
use Rattle.std.specs.Prelude.{ℕ, Bool, true, false, ◌≡◌, ◌≢◌, ◌⊎◌, ◌+◌, ◌<◌, ◌≤◌, ◌^◌, List, [], ◌∷◌, ◌++◌, length}
use Rattle.std.specs.List.{list_all}
use Rattle.std.specs.Char.{is_ascii_digit}
use Rattle.m88_parse.specs.declared.fault.ParseKind.{ParseKind}
use Rattle.m88_parse.specs.declared.fault.ParseKind.TheVariants.{NotAscii, Syntax, OutOfRange}
use Rattle.m88_parse.specs.declared.fault.ParseFault.{ParseFault}
use Rattle.m88_base.specs.Lines.{lines_of}
use Rattle.m88_base.specs.Name.{continues_name}
use Rattle.m88_parse.specs.Language.Bytes.{single_quote, double_quote, backslash, is_blank, is_comment, is_plain, is_mark}
use Rattle.m88_parse.specs.Language.Pieces.{TokenValue, Piece}
use Rattle.m88_parse.specs.Language.Tokens.{IsGap, AreNameBytes, BeginsWithNoNameByte, IsNumeral, IsToken, Begins, LineTokens}
use Rattle.m88_parse.specs.Language.Units.{Said, LineSays}
use Rattle.m88_parse.specs.Language.LineFaults.{IsLineFault}

-- what an opening quote takes of the bytes behind it: up to a closing quote, or to the end of the line; a backslash
-- takes the next byte with it, whatever it is
pub data Takes (quote : ℕ) : List ℕ → List ℕ → Type 0 where
  line_ends : Takes quote [] []
  quote_closes : {bs : List ℕ} → Takes quote (quote ∷ bs) []
  byte_taken : {b : ℕ} {bs inside : List ℕ} → b ≢ quote → b ≢ backslash → Takes quote bs inside
      → Takes quote (b ∷ bs) (b ∷ inside)
  pair_taken : {e : ℕ} {bs inside : List ℕ} → Takes quote bs inside
      → Takes quote (backslash ∷ e ∷ bs) (backslash ∷ e ∷ inside)
  last_taken : Takes quote (backslash ∷ []) (backslash ∷ [])

-- a single or a double quote
abbrev pub IsQuote : ℕ → Type 0
IsQuote b = (b ≡ double_quote) ⊎ (b ≡ single_quote)

-- whether a run begins with a digit
abbrev pub BeginsWithDigit : List ℕ → Bool → Type 0
BeginsWithDigit [] digit = ⊥
BeginsWithDigit (b ∷ bs) digit = is_ascii_digit b ≡ digit

-- a byte that begins no token, blank or comment, but may stand in one
pub record IsStray (b : ℕ) : Type 0 where
  pub valid : is_plain b ≡ true
  pub no_comment : is_comment b ≡ false
  pub no_blank : is_blank b ≡ false
  pub no_word : continues_name b ≡ false
  pub no_mark : is_mark b ≡ false
  pub no_quote : IsQuote b → ⊥

-- what stands at the front of bytes where neither a blank, a comment nor a token does: how far behind the front the
-- fault is, and its kind; in quotes a byte that isn't plain counts before all else
pub data IsFlaw : List ℕ → ℕ → ParseKind → Type 0 where
  foreign_byte : {b : ℕ} {bs : List ℕ} → is_plain b ≡ false → IsFlaw (b ∷ bs) 0 NotAscii
  foreign_in_quotes : {q : ℕ} {bs : List ℕ} (before : List ℕ) (b : ℕ) (after : List ℕ) → IsQuote q
      → Takes q bs (before ++ b ∷ after) → list_all is_plain before ≡ true → is_plain b ≡ false
      → IsFlaw (q ∷ bs) (length before + 1) NotAscii
  no_quoted_token : {q : ℕ} {bs : List ℕ} (inside : List ℕ)
      → IsQuote q → Takes q bs inside → list_all is_plain inside ≡ true
      → ((m : TokenValue) (rest : List ℕ) → bs ≡ inside ++ q ∷ rest → IsToken (q ∷ inside ++ q ∷ []) m → ⊥)
      → IsFlaw (q ∷ bs) 0 Syntax
  long_name : (run rest : List ℕ) {bytes : List ℕ} → bytes ≡ run ++ rest → AreNameBytes run → BeginsWithNoNameByte rest
      → BeginsWithDigit run false → 64 < length run → IsFlaw bytes 0 OutOfRange
  no_number : (run rest : List ℕ) {bytes : List ℕ} → bytes ≡ run ++ rest → AreNameBytes run → BeginsWithNoNameByte rest
      → BeginsWithDigit run true → ((n : ℕ) → IsNumeral run n → ⊥) → IsFlaw bytes 0 Syntax
  large_number : (run rest : List ℕ) (n : ℕ) {bytes : List ℕ} → bytes ≡ run ++ rest → AreNameBytes run
      → BeginsWithNoNameByte rest → IsNumeral run n → 2 ^ 32 ≤ n → IsFlaw bytes 0 OutOfRange
  stray_byte : {b : ℕ} {bs : List ℕ} → IsStray b → IsFlaw (b ∷ bs) 0 Syntax

-- a gap and then a flaw
pub record BreaksAt (col : ℕ) (bytes : List ℕ) (at : ℕ) (kind : ParseKind) : Type 0 where
  pub gap : List ℕ
  pub rest : List ℕ
  pub far : ℕ
  pub bytes_are : bytes ≡ gap ++ rest
  pub blank : IsGap gap
  pub flaw : IsFlaw rest far kind
  pub place : at ≡ col + length gap + far

-- the bytes from a column on are gaps and these tokens in turn, up to a column where they can't be cut
abbrev pub Breaks : ℕ → List ℕ → List Piece → ℕ → ParseKind → Type 0
Breaks col bytes [] at kind = BreaksAt col bytes at kind
Breaks col bytes (p ∷ ps) at kind =
    (rest : List ℕ) × Begins col bytes p rest × Breaks (p.col + length p.text) rest ps at kind

-- the first place of a whole line that can't be cut into tokens, and why
abbrev pub IsTokenFault : ℕ → List ℕ → ParseFault → Type 0
IsTokenFault number line fault = (ps : List Piece) × Breaks 1 line ps fault.col fault.kind × (number ≡ fault.line)

-- the fault of the first of these lines that has one; the lines' numbers go on from one
pub data FirstOf : ℕ → List (List ℕ) → ParseFault → Type 0 where
  uncut_line : {number : ℕ} {line : List ℕ} {lines : List (List ℕ)} (ps : List Piece) {at : ℕ} {kind : ParseKind}
      → Breaks 1 line ps at kind → FirstOf number (line ∷ lines) (record { line = number; col = at; kind = kind })
  faulty_line : {number : ℕ} {line : List ℕ} {lines : List (List ℕ)} (ps : List Piece) {at : ℕ} {kind : ParseKind}
      → LineTokens line ps → IsLineFault ps at kind
      → FirstOf number (line ∷ lines) (record { line = number; col = at; kind = kind })
  later_line : {number : ℕ} {line : List ℕ} {lines : List (List ℕ)} (ps : List Piece) (said : Said) {fault : ParseFault}
      → LineTokens line ps → LineSays number ps said → FirstOf (number + 1) lines fault
      → FirstOf number (line ∷ lines) fault

-- the first fault of a source
abbrev pub IsFirstFault : List ℕ → ParseFault → Type 0
IsFirstFault source fault = FirstOf 1 (lines_of source) fault
