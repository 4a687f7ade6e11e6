-- What stands before the line `handler`: a data fault, as `m88serve` reads it, and then lines of registers.
use Rattle.std.specs.Prelude.{ℕ, Bool, false, List, [], ◌∷◌, Option, Some, None, Result, Ok, Err, ◌+◌, ◌==◌, ◌&&◌, ◌||◌, codes, is_some, length, option_and_then, option_map, replicate, slice_set, if◌then◌else◌}
use Rattle.m88_base.specs.Cut.{split_at_byte}
use Rattle.m88_base.specs.Numerals.{decimal_in}
use Rattle.m88_serving.specs.Cases.{Case, case_in, word_told}
use Rattle.m88_serving.specs.Faults.{repeated_from}
use Rattle.m88_serving.specs.Lines.{behind_front, last_word}
use Rattle.m88_serving.specs.Verdict.{case_verdict}
use Rattle.m88_serving.specs.declared.fault.ServeFault.{ServeFault}
use Rattle.m88_serving.specs.declared.fault.ServeKind.TheVariants as kind

-- a fault with the numbers in the registers
pub record Told : Type 0 where
  pub fault : Case
  pub given : List ℕ

-- a line of a register begins with `r`, as no line of a word does
unfoldable pub begins_register : List ℕ → Bool
begins_register [] = false
begins_register (byte ∷ bytes) = byte == 114

-- the line of the third transaction, behind which they stand
abbrev pub is_third : List ℕ → Bool
is_third line = is_some (behind_front (codes "t2 ") line)

-- the lines of the fault: up to the first of a register, once that of the third transaction is passed
unfoldable pub fault_part : Bool → List (List ℕ) → List (List ℕ)
fault_part passed [] = []
fault_part passed (line ∷ lines) =
    if passed && begins_register line then [] else line ∷ fault_part (passed || is_third line) lines

-- and the lines from there on
unfoldable pub register_part : Bool → List (List ℕ) → List (List ℕ)
register_part passed [] = []
register_part passed (line ∷ lines) =
    if passed && begins_register line then line ∷ lines else register_part (passed || is_third line) lines

-- the number of a register, 1 to 31, in decimal digits without a needless zero
abbrev pub register_number : List ℕ → Option ℕ
register_number digits = option_and_then (λ r. if r == 0 then None else Some r) (decimal_in 31 digits)

-- the register and the word of a text that is cut at its first blank
abbrev pub register_cut : List ℕ × List ℕ → Option (ℕ × ℕ)
register_cut parts =
    option_and_then (λ r. option_map (λ word. (r, word)) (last_word [] parts.1)) (register_number parts.0)

-- the register of a line, r1 to r31, with its word
unfoldable pub register_told : List ℕ → Option (ℕ × ℕ)
register_told line =
    option_and_then (λ rest. option_and_then register_cut (split_at_byte 32 rest)) (behind_front (codes "r") line)

-- the registers that lines tell, the first of them with a number, or the number of the first that tells none
unfoldable pub registers_told : ℕ → List (List ℕ) → Result (List (ℕ × ℕ)) ℕ
registers_told number [] = Ok []
registers_told number (line ∷ lines) = word_told number (register_told line) (registers_told (number + 1) lines)

-- registers of which one takes a word
abbrev pub with_given : List ℕ → ℕ × ℕ → List ℕ
with_given given word = slice_set given word.0 word.1

-- the registers once each of these words is put into its own
unfoldable pub given_by : List ℕ → List (ℕ × ℕ) → List ℕ
given_by given [] = given
given_by given (word ∷ words) = given_by (with_given given word) words

-- a fault with registers, none of which may be told twice; one that isn't told is 0
abbrev pub once_told : Case → List (ℕ × ℕ) → Option ℕ → Result Told ServeFault
once_told fault words None = Ok (record { fault = fault; given = given_by (replicate 32 0) words })
once_told fault words (Some number) = Err (record { line = number; kind = kind.Twice })

-- the registers behind a fault, the first of their lines with a number: its own refusal comes first, then a line of the
-- wrong form, then a register that is told twice
abbrev pub with_registers : ℕ → Result Case ServeFault → Result (List (ℕ × ℕ)) ℕ → Result Told ServeFault
with_registers number (Err fault) registers = Err fault
with_registers number (Ok fault) (Err at) = Err (record { line = at; kind = kind.Form })
with_registers number (Ok fault) (Ok words) = once_told fault words (repeated_from number [] words)

-- the verdict on the lines before `handler`
unfoldable pub told_verdict : List (List ℕ) → Result Told ServeFault
told_verdict lines =
    with_registers (length (fault_part false lines) + 1) (case_verdict (case_in (fault_part false lines)))
    (registers_told (length (fault_part false lines) + 1) (register_part false lines))
