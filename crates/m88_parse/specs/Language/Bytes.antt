-- The bytes of a source by name and by what they are for (lines and tokens of the assembly language).
use Rattle.std.specs.Prelude.{ℕ, ◌&&◌, ◌||◌, Bool, ◌==◌, nat_lt, nat_le, if◌then◌else◌, List, codes}
use Rattle.std.specs.List.{list_any, list_all}
use Rattle.std.specs.Char.{digit_value}
use Rattle.m88_base.specs.Lines.{line_feed}

-- one of the two blanks
abbrev pub tab : ℕ
tab = 9

-- the other blank
abbrev pub space : ℕ
space = 32

-- " opens and closes a text
abbrev pub double_quote : ℕ
double_quote = 34

-- ' opens and closes a character
abbrev pub single_quote : ℕ
single_quote = 39

-- \ begins an escape
abbrev pub backslash : ℕ
backslash = 92

-- the marks that a rule speaks of: (
abbrev pub opening_parenthesis : ℕ
opening_parenthesis = 40

-- )
abbrev pub closing_parenthesis : ℕ
closing_parenthesis = 41

-- +
abbrev pub plus_mark : ℕ
plus_mark = 43

-- ,
abbrev pub comma_mark : ℕ
comma_mark = 44

-- -
abbrev pub minus_mark : ℕ
minus_mark = 45

-- :
abbrev pub colon_mark : ℕ
colon_mark = 58

-- <
abbrev pub opening_angle : ℕ
opening_angle = 60

-- >
abbrev pub closing_angle : ℕ
closing_angle = 62

-- [
abbrev pub opening_bracket : ℕ
opening_bracket = 91

-- ]
abbrev pub closing_bracket : ℕ
closing_bracket = 93

-- blanks separate tokens: space and tab
abbrev pub is_blank : ℕ → Bool
is_blank b = b == space || b == tab

-- a comment begins at ; or #
abbrev pub is_comment : ℕ → Bool
is_comment b = b == 59 || b == 35

-- what may stand outside comments: the space to ~, which are 32 to 126, and the tab
abbrev pub is_plain : ℕ → Bool
is_plain b = nat_le space b && nat_le b 126 || b == tab

-- a mark is a token by itself
abbrev pub is_mark : ℕ → Bool
is_mark b = list_any (λ m. b == m) (codes ",:[]<>()+-")

-- the byte behind the backslash of an escape: n t 0 \ " '
abbrev pub is_escape : ℕ → Bool
is_escape b = list_any (λ m. b == m) (codes "nt0\\\"'")

-- the byte that an escape stands for: line feed for n, which is 110, tab for t, 116, and 0 for the digit 0, 48; else
-- itself
abbrev pub escape_value : ℕ → ℕ
escape_value b = if b == 110 then line_feed else (if b == 116 then tab else (if b == 48 then 0 else b))

-- digits of a base, of either case
abbrev pub are_digits : ℕ → List ℕ → Bool
are_digits base ds = list_all (λ d. nat_lt (digit_value d) base) ds
