-- A line writes one command of the monitor.
use Rattle.std.proofs.Common.{◌≡◌, ℕ, ◌≤◌, Option, Some, List, ◌∷◌, ◌++◌, codes, get_or, length, append_assoc, refl, ap, sym, ◌∙◌, subst, arith}
use Rattle.std.specs.Option.{option_map}
use Rattle.std.proofs.lemmas.List.{append_cancel_left}
use Rattle.std.proofs.lemmas.Int.Digits.{digits_value-lt}
use Rattle.std.proofs.Math.Nat.{pow-le-pow_right}
use Rattle.m88_base.specs.Cut.{Lacks}
use Rattle.m88_session.specs.Script.{HasOperand, IsCount, AreMemoryOperands, WritesAddress, WritesCommand, most_steps, most_words}
use Rattle.m88_session.specs.declared.script.MonitorCommand.{MonitorCommand}
use Rattle.m88_session.specs.declared.script.MonitorCommand.TheVariants.{Step, Go, Break, Regs, Pipe, Memory, Drain, Trace}
use Rattle.m88_base.proofs.Laws.{cut_once, none_in_digits}

-- the first byte of a command's line
abbrev letter_of : MonitorCommand → ℕ
letter_of (Step n) = 115
letter_of Go = 103
letter_of (Break address) = 98
letter_of Regs = 114
letter_of Pipe = 112
letter_of (Memory address count) = 109
letter_of Drain = 100
letter_of (Trace n) = 116

abbrev first_of : List ℕ → ℕ
first_of line = get_or line 0 0

begins : (c : MonitorCommand) (line : List ℕ) → WritesCommand c line → first_of line ≡ letter_of c
begins (Step n) line h = ap first_of h.line_is
begins (Break address) line h = ap first_of h.line_is
begins (Memory address count) line h = ap first_of h.line_is
begins (Trace n) line h = ap first_of h.line_is
begins _ line h = ap first_of h

-- what operands write
same_count : (most m n : ℕ) (text : List ℕ) → IsCount most text m → IsCount most text n → m ≡ n
same_count most m n text a b = a.number.value ∙ sym b.number.value

same_place : (a b : ℕ) (text : List ℕ) → WritesAddress text a → WritesAddress text b → a ≡ b
same_place a b text h k = h.value ∙ sym k.value

-- an address has at most eight digits
pub place_is_small : (text : List ℕ) (address : ℕ) → WritesAddress text address → address ≤ 4294967295
place_is_small text address h =
    let below = digits_value-lt 16 text h.numeral.1 in
    let power = pow-le-pow_right {n = 16} (omega arith) {i = length text} {j = 8} h.short in
    omega (arith, below, power, h.value)

-- an address has no blank
pub place_has_none : (text : List ℕ) (address : ℕ) → WritesAddress text address → Lacks 32 text
place_has_none text address h = none_in_digits 32 16 text (omega arith) h.numeral.1

pub record AreParts (place digits : List ℕ) (address count : ℕ) : Type 0 where
  pub is_place : WritesAddress place address
  pub is_count : IsCount most_words digits count

-- an address and a number of words stand before and behind the first blank
pub are_parts : (text place digits : List ℕ) (address count : ℕ) → text ≡ place ++ 32 ∷ digits → Lacks 32 place
    → AreMemoryOperands text address count → AreParts place digits address count
are_parts text place digits address count e none h =
    let same = cut_once 32 h.place h.digits place digits (place_has_none h.place address h.is_place) none (sym (h.text_is ∙ append_assoc h.place (codes " ") h.digits) ∙ e) in
    record {
      is_place = subst (λ t. WritesAddress t address) same.0 h.is_place;
      is_count = subst (λ t. IsCount most_words t count) same.1 h.is_count;
    }

-- the operand behind a name is the one
pub same_operand : (name : List ℕ) (IsSuch : List ℕ → Type 0) (line text : List ℕ) → line ≡ name ++ codes " " ++ text → HasOperand name IsSuch line → IsSuch text
same_operand name IsSuch line text e h =
    subst IsSuch (append_cancel_left (name ++ codes " ") h.operand text (sym h.line_is ∙ e)) h.is_such

-- two texts with other first bytes
others : (line : List ℕ) (a b : ℕ) → first_of line ≡ a → first_of line ≡ b → a ≡ b
others line a b e f = sym e ∙ f

-- what is read behind a name is the only command of the line
pub only_break : (line text : List ℕ) (o : Option ℕ) → line ≡ codes "break " ++ text → ((n : ℕ) → WritesAddress text n → o ≡ Some n)
    → (c : MonitorCommand) → WritesCommand c line → option_map (λ n. Break n) o ≡ Some c
only_break line text o e only (Break address) h = ap (option_map (λ n. Break n)) (only address (same_operand (codes "break") (λ t. WritesAddress t address) line text e h))
only_break line text o e only c h = let k = others line (letter_of c) 98 (begins c line h) (ap first_of e) in absurd (omega (arith, k))

pub only_memory : (line text : List ℕ) (o : Option (ℕ × ℕ)) → line ≡ codes "mem " ++ text → ((address count : ℕ) → AreMemoryOperands text address count → o ≡ Some (address, count))
    → (c : MonitorCommand) → WritesCommand c line → option_map (λ p. Memory p.0 p.1) o ≡ Some c
only_memory line text o e only (Memory address count) h =
    ap (option_map (λ p. Memory p.0 p.1)) (only address count (same_operand (codes "mem") (λ t. AreMemoryOperands t address count) line text e h))
only_memory line text o e only c h = let k = others line (letter_of c) 109 (begins c line h) (ap first_of e) in absurd (omega (arith, k))

-- a line writes one command
pub same_command : (c d : MonitorCommand) (line : List ℕ) → WritesCommand c line → WritesCommand d line → c ≡ d
same_command (Step m) (Step n) line a b =
    ap (λ k. Step k) (same_count most_steps m n a.operand a.is_such (same_operand (codes "step") (λ t. IsCount most_steps t n) line a.operand a.line_is b))
same_command Go Go line a b = refl
same_command (Break p) (Break q) line a b =
    ap (λ k. Break k) (same_place p q a.operand a.is_such (same_operand (codes "break") (λ t. WritesAddress t q) line a.operand a.line_is b))
same_command Regs Regs line a b = refl
same_command Pipe Pipe line a b = refl
same_command (Memory p m) (Memory q n) line a b =
    let own = a.is_such in
    let parts = are_parts a.operand own.place own.digits q n (own.text_is ∙ append_assoc own.place (codes " ") own.digits) (place_has_none own.place p own.is_place)
    (same_operand (codes "mem") (λ t. AreMemoryOperands t q n) line a.operand a.line_is b) in
    ap (λ k. Memory k m) (same_place p q own.place own.is_place parts.is_place)
    ∙ ap (λ k. Memory q k) (same_count most_words m n own.digits own.is_count parts.is_count)
same_command Drain Drain line a b = refl
same_command (Trace m) (Trace n) line a b =
    ap (λ k. Trace k) (same_count most_steps m n a.operand a.is_such (same_operand (codes "trace") (λ t. IsCount most_steps t n) line a.operand a.line_is b))
same_command c d line a b = let k = others line (letter_of c) (letter_of d) (begins c line a) (begins d line b) in absurd (omega (arith, k))
