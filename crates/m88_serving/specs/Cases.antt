-- What an input tells of a data fault: the line of the status, those of the three transactions, and then words of data
-- memory, a line each.
use Rattle.std.specs.Prelude.{ℕ, ◌+◌, List, [], ◌∷◌, Option, Some, None, Result, Ok, Err, codes, option_map}
use Rattle.m88_base.specs.declared.triple.Triple.{Triple}
use Rattle.m88_event.specs.declared.record.Record.{Record}
use Rattle.m88_serving.specs.Lines.{status_in, triple_in, named_word_in}
use Rattle.m88_serving.specs.declared.lines.StatusLine.{StatusLine}

-- a data fault: the record that it left, whose event isn't told and counts as 0, and the words before
pub record Case : Type 0 where
  pub fault : Record
  pub words : List (ℕ × ℕ)

-- the record of a status and three transactions
abbrev pub record_with : StatusLine → Triple → Triple → Triple → Record
record_with status t0 t1 t2 = record {
  event = 0;
  epsr = status.epsr;
  sxip = status.sxip;
  snip = status.snip;
  sfip = status.sfip;
  ssbr = status.ssbr;
  triples = t0 ∷ t1 ∷ t2 ∷ [];
}

-- what the first line tells, and the lines behind it
unfoldable pub first_told : {X : Type 0} → (List ℕ → Option X) → List (List ℕ) → Option (X × List (List ℕ))
first_told tells [] = None
first_told tells (line ∷ lines) = option_map (λ told. (told, lines)) (tells line)

-- with what a line of a number tells and the lines behind it; where it tells nothing, or isn't there, that number is
-- the answer
abbrev pub told_at : {X Y : Type 0} → ℕ → Option (X × List (List ℕ)) → (X → List (List ℕ) → Result Y ℕ) → Result Y ℕ
told_at number None rest = Err number
told_at number (Some told) rest = rest told.0 told.1

-- a word in front of others
abbrev pub word_before : ℕ × ℕ → Result (List (ℕ × ℕ)) ℕ → Result (List (ℕ × ℕ)) ℕ
word_before word (Ok words) = Ok (word ∷ words)
word_before word (Err number) = Err number

-- the word of a line of a number in front of those behind it
abbrev pub word_told : ℕ → Option (ℕ × ℕ) → Result (List (ℕ × ℕ)) ℕ → Result (List (ℕ × ℕ)) ℕ
word_told number None rest = Err number
word_told number (Some word) rest = word_before word rest

-- the words that lines tell, the first of them with a number, or the number of the first that tells none
unfoldable pub words_told : ℕ → List (List ℕ) → Result (List (ℕ × ℕ)) ℕ
words_told number [] = Ok []
words_told number (line ∷ lines) = word_told number (named_word_in line) (words_told (number + 1) lines)

-- a record with words
abbrev pub case_with : Record → Result (List (ℕ × ℕ)) ℕ → Result Case ℕ
case_with fault (Ok words) = Ok (record { fault = fault; words = words })
case_with fault (Err number) = Err number

-- what lines tell, or the number of the first line, from 1, that isn't of the form; where the lines stop early, that of
-- the line behind the last
unfoldable pub case_in : List (List ℕ) → Result Case ℕ
case_in lines =
    told_at 1 (first_told status_in lines) (λ status lines.
    told_at 2 (first_told (triple_in (codes "t0 ")) lines) (λ t0 lines.
    told_at 3 (first_told (triple_in (codes "t1 ")) lines) (λ t1 lines.
    told_at 4 (first_told (triple_in (codes "t2 ")) lines) (λ t2 lines.
    case_with (record_with status t0 t1 t2) (words_told 5 lines)))))
