-- What was read of lines in parts.
use Rattle.std.specs.Prelude.{ℕ, List, Result, Ok, Err, ◌≡◌, ◌++◌}
use Rattle.m88_entries.specs.declared.registers.UnreadLine.{UnreadLine}
use Rattle.m88_entries.specs.declared.registers.UnreadLine.TheVariants as unread

-- a line isn't of the form, unless memory ran out
abbrev pub IsUnreadLine : {X : Type 0} → Result X ℕ → UnreadLine → Type 0
IsUnreadLine told (unread.Form number) = told ≡ Err number
IsUnreadLine told unread.Memory = Unit {0}

-- words behind others
abbrev pub words_behind : List (ℕ × ℕ) → Result (List (ℕ × ℕ)) ℕ → Result (List (ℕ × ℕ)) ℕ
words_behind words (Ok more) = Ok (words ++ more)
words_behind words (Err number) = Err number
