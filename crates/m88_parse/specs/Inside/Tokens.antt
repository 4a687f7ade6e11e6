-- A line as it is cut into tokens, from the left.
use Rattle.std.specs.Prelude.{ℕ, zero, suc, ◌+◌, ◌-◌, ◌^◌, ◌&&◌, ◌||◌, not, Bool, true, false, ◌==◌, nat_lt, if◌then◌else◌, List, [], ◌∷◌, length, take, drop, map, Option, Some, None, Result, Ok, Err}
use Rattle.std.specs.List.{prefix_len}
use Rattle.std.specs.Char.{is_ascii_digit}
use Rattle.std.specs.Str.Parse.{digits_value}
use Rattle.m88_parse.specs.declared.fault.ParseKind.{ParseKind}
use Rattle.m88_parse.specs.declared.fault.ParseKind.TheVariants.{NotAscii, Syntax, OutOfRange}
use Rattle.m88_parse.specs.declared.fault.ParseFault.{ParseFault}
use Rattle.m88_parse.specs.declared.token.What.{What}
use Rattle.m88_parse.specs.declared.token.What.TheVariants as whats
use Rattle.m88_parse.specs.declared.token.Kept.{Kept}
use Rattle.m88_parse.specs.declared.token.Kept.TheVariants as keeps
use Rattle.m88_parse.specs.declared.token.Lexeme.{Lexeme}
use Rattle.m88_parse.specs.declared.scan.Cut.{Cut as CutOfCode}
use Rattle.m88_parse.specs.declared.scan.Flaw.{Flaw}
use Rattle.m88_base.specs.Name.{continues_name}
use Rattle.m88_parse.specs.Language.Bytes.{backslash, double_quote, single_quote, is_blank, is_comment, is_plain, is_mark, is_escape, escape_value, are_digits}
use Rattle.m88_parse.specs.Language.Pieces.{TokenValue, a_name, a_number, a_text, a_mark, Piece, PlainToken, token_of}

-- 0x and hexadecimal digits
abbrev pub is_hexadecimal_number : List ℕ → Bool
is_hexadecimal_number (a ∷ b ∷ d ∷ ds) = a == 48 && b == 120 && are_digits 16 (d ∷ ds)
is_hexadecimal_number _ = false

-- decimal digits without a needless 0 in front
abbrev pub is_decimal : List ℕ → Bool
is_decimal (d ∷ e ∷ ds) = not (d == 48) && are_digits 10 (d ∷ e ∷ ds)
is_decimal ds = are_digits 10 ds

-- a number below 2 ^ 32
abbrev pub bounded : ℕ → Result ℕ ParseKind
bounded n = if nat_lt n (2 ^ 32) then Ok n else Err OutOfRange

-- the number of a run that begins with a digit
abbrev pub numeral : List ℕ → Result ℕ ParseKind
numeral run =
    if is_hexadecimal_number run then bounded (digits_value 16 (drop 2 run))
    else (if is_decimal run then bounded (digits_value 10 run) else Err Syntax)

-- a backslash takes the next byte with it
abbrev pub begins_escape : Bool → ℕ → Bool
begins_escape escaped b = not escaped && b == backslash

-- a quote of the same kind closes
abbrev pub closes : ℕ → Bool → ℕ → Bool
closes quote escaped b = not escaped && b == quote

-- how many bytes stand before the closing quote, or before the end of the line where there is none
abbrev pub inside_len : ℕ → Bool → List ℕ → ℕ
inside_len quote escaped [] = 0
inside_len quote escaped (b ∷ bs) =
    if closes quote escaped b then 0 else 1 + inside_len quote (begins_escape escaped b) bs

-- each backslash begins an escape
abbrev pub holds_escapes : Bool → List ℕ → Bool
holds_escapes escaped [] = not escaped
holds_escapes escaped (b ∷ bs) = not (escaped && not (is_escape b)) && holds_escapes (begins_escape escaped b) bs

-- the bytes that a text stands for
abbrev pub text_bytes : Bool → List ℕ → List ℕ
text_bytes escaped [] = []
text_bytes escaped (b ∷ bs) =
    if begins_escape escaped b then text_bytes true bs
    else (if escaped then escape_value b else b) ∷ text_bytes false bs

-- exactly one byte or escape
abbrev pub character : List ℕ → Option ℕ
character (b ∷ []) = Some b
character (b ∷ e ∷ []) = if b == backslash && is_escape e then Some (escape_value e) else None
character _ = None

-- the front of the rest of a line: how many bytes it takes, and what they say where they are a token
pub record Cut : Type 0 where
  pub len : ℕ
  pub says : Option TokenValue

-- bytes that are no token
abbrev pub gap : ℕ → Result Cut Flaw
gap len = Ok (record { len = len; says = None })

-- a token
abbrev pub token_cut : ℕ → TokenValue → Result Cut Flaw
token_cut len meaning = Ok (record { len = len; says = Some meaning })

-- a place that can't be cut
abbrev pub flaw : ParseKind → ℕ → Result Cut Flaw
flaw kind at = Err (record { at = at; kind = kind })

-- a token, or a quote that holds none
abbrev pub token_or_flaw : ℕ → Option TokenValue → Result Cut Flaw
token_or_flaw len (Some meaning) = token_cut len meaning
token_or_flaw len None = flaw Syntax 0

-- a name, which has at most 64 bytes
abbrev pub name_front : List ℕ → Result Cut Flaw
name_front run = if nat_lt 64 (length run) then flaw OutOfRange 0 else token_cut (length run) (a_name run)

-- a number
abbrev pub number_front : ℕ → Result ℕ ParseKind → Result Cut Flaw
number_front len (Ok n) = token_cut len (a_number n)
number_front len (Err kind) = flaw kind 0

-- a character as a number
abbrev pub as_number : Option ℕ → Option TokenValue
as_number None = None
as_number (Some n) = Some (a_number n)

-- what closed quotes hold: a character in single quotes, a text in double quotes
abbrev pub quoted_value : ℕ → List ℕ → Option TokenValue
quoted_value quote inside =
    if quote == single_quote then as_number (character inside)
    else (if holds_escapes false inside then Some (a_text (text_bytes false inside)) else None)

-- a quote, by what stands behind it: a byte that isn't plain counts first, then a missing quote
unfoldable pub quoted : ℕ → List ℕ → Result Cut Flaw
quoted quote bs =
    let len = inside_len quote false bs
    in if nat_lt (prefix_len is_plain (take len bs)) len then flaw NotAscii (prefix_len is_plain (take len bs) + 1)
    else token_or_flaw (len + 2) (if len == length bs then None else quoted_value quote (take len bs))

-- the longest run at the front, by its first byte
abbrev pub word_front : ℕ → List ℕ → Result Cut Flaw
word_front b run = if is_ascii_digit b then number_front (length run) (numeral run) else name_front run

-- the front of bytes that aren't empty: a comment and a blank are gaps
unfoldable pub front : List ℕ → Result Cut Flaw
front [] = gap 0
front (b ∷ bs) =
    if is_comment b then gap (length (b ∷ bs))
    else (if is_blank b then gap 1
    else (if not (is_plain b) then flaw NotAscii 0
    else (if continues_name b then word_front b (take (prefix_len continues_name (b ∷ bs)) (b ∷ bs))
    else (if is_mark b then token_cut 1 (a_mark b)
    else (if b == double_quote || b == single_quote then quoted b bs else flaw Syntax 0)))))

-- a token more in front, if there is one
abbrev pub prepend : Option TokenValue → ℕ → List ℕ → Result (List Piece) ParseFault → Result (List Piece) ParseFault
prepend None col text rest = rest
prepend (Some meaning) col text (Ok pieces) = Ok (record { text = text; col = col; says = meaning } ∷ pieces)
prepend (Some meaning) col text (Err fault) = Err fault

-- a flaw as a fault of its line
abbrev pub fault_at : ℕ → ℕ → Flaw → ParseFault
fault_at line col flaw = record { line = line; col = col + flaw.at; kind = flaw.kind }

-- the tokens from a column on, cut from the left; skip counts the bytes of a front that was cut off already
unfoldable pub pieces_from : ℕ → ℕ → ℕ → List ℕ → Result (List Piece) ParseFault
pieces_from line skip col [] = Ok []
pieces_from line (suc skip) col (b ∷ bs) = pieces_from line skip (col + 1) bs
pieces_from line zero col (b ∷ bs) = elim (front (b ∷ bs)) [
  | Ok c ↦ prepend c.says col (take c.len (b ∷ bs)) (pieces_from line (c.len - 1) (col + 1) bs)
  | Err f ↦ Err (fault_at line col f)
]

-- the tokens of a whole line
abbrev pub pieces_of : ℕ → List ℕ → Result (List Piece) ParseFault
pieces_of line bytes = pieces_from line 0 1 bytes

-- what a token of the code says
abbrev pub token_value : What → TokenValue
token_value (whats.Name text) = a_name text.now
token_value (whats.Number n) = a_number n
token_value (whats.Text inside) = a_text (text_bytes false inside.now)
token_value (whats.Mark m) = a_mark m

-- the same where there is one
abbrev pub token_value_in : Option What → Option TokenValue
token_value_in None = None
token_value_in (Some what) = Some (token_value what)

-- what stands between the first byte and the last one
abbrev pub between : List ℕ → List ℕ
between text = take (length text - 2) (drop 1 text)

-- what a token of these bytes says, by what the code keeps of it beside them
abbrev pub kept_value : List ℕ → Kept → TokenValue
kept_value text keeps.Name = a_name text
kept_value text (keeps.Number n) = a_number n
kept_value text keeps.Text = a_text (text_bytes false (between text))
kept_value text (keeps.Mark m) = a_mark m

-- the same where there is one
abbrev pub kept_value_in : List ℕ → Option Kept → Option TokenValue
kept_value_in text None = None
kept_value_in text (Some kept) = Some (kept_value text kept)

-- a front of the code, which takes these bytes
abbrev pub cut_of : List ℕ → CutOfCode → Cut
cut_of text c = record { len = c.len; says = kept_value_in text c.kept }

-- the bytes of a token of the code in its line
abbrev pub text_in : List ℕ → Lexeme → List ℕ
text_in line x = take x.len (drop (x.col - 1) line)

-- a token of the code as a piece of its line
abbrev pub piece_in : List ℕ → Lexeme → Piece
piece_in line x = record { text = text_in line x; col = x.col; says = kept_value (text_in line x) x.kept }

-- pieces as the tokens of the public call
abbrev pub tokens_from : ℕ → Result (List Piece) ParseFault → Result (List PlainToken) ParseFault
tokens_from line (Ok ps) = Ok (map (token_of line) ps)
tokens_from line (Err fault) = Err fault

-- the tokens of a line, or the first place that can't be cut
abbrev pub tokens_of : ℕ → List ℕ → Result (List PlainToken) ParseFault
tokens_of line bytes = tokens_from line (pieces_of line bytes)
