-- Where the tokens of the code stand.
use Rattle.std.specs.Prelude.{ℕ, ◌+◌, ◌≤◌, List, length}
use Rattle.m88_parse.specs.declared.token.Lexeme.{Lexeme}

-- the column counts from 1, and the line has as many bytes from there on as the token
abbrev pub IsCutFrom : List ℕ → Lexeme → Type 0
IsCutFrom line x = (1 ≤ x.col) × (x.col + x.len ≤ length line + 1)
