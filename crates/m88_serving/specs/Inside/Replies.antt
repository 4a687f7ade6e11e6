-- What was read of an input, and what the reply to it says.
use Rattle.std.specs.Prelude.{ℕ, List, Result, Ok, Err, ◌≡◌, ◌++◌}
use Rattle.m88_base.specs.Reply.{AnswersAs, RefusesAs}
use Rattle.m88_base.specs.declared.reply.Reply.{Reply}
use Rattle.m88_serving.specs.Cases.{Case}
use Rattle.m88_serving.specs.Served.{IsCaseRefusal, IsServed, IsTurnedDown}
use Rattle.m88_serving.specs.declared.reading.Told.{Told}
use Rattle.m88_serving.specs.declared.reading.Unread.{Unread}
use Rattle.m88_serving.specs.declared.reading.Unread.TheVariants as unread

-- what was read as a case
abbrev pub case_of : Told → Case
case_of told = record { fault = told.fault; words = told.words.items }

-- a line isn't of the form, unless memory ran out
abbrev pub IsNotOfTheForm : {X : Type 0} → Result X ℕ → Unread → Type 0
IsNotOfTheForm told (unread.Form number) = told ≡ Err number
IsNotOfTheForm told unread.Memory = Unit {0}

-- words behind others
abbrev pub words_behind : List (ℕ × ℕ) → Result (List (ℕ × ℕ)) ℕ → Result (List (ℕ × ℕ)) ℕ
words_behind words (Ok more) = Ok (words ++ more)
words_behind words (Err number) = Err number

-- the reply's text answers an input that is accepted or not, as the reply says, and its refusal is that of the input
abbrev pub RepliesServed : List ℕ → Reply → Type 0
RepliesServed input r = AnswersAs (IsServed input) (IsTurnedDown input) r × RefusesAs (IsCaseRefusal input) r
