-- Whether a line of a script writes a command can be told.
use Rattle.std.proofs.Common.{◌≡◌, ℕ, ◌≤◌, List, [], ◌∷◌, ◌++◌, Option, None, Some, length, append_assoc, inl, inr, refl, ap, sym, ◌∙◌, subst, arith}
use Rattle.std.specs.Prelude.{◌⊎◌, codes, nat_le}
use Rattle.std.specs.Str.Parse.{digits_value}
use Rattle.std.proofs.lemmas.Bool.{cases_eq, leb-true}
use Rattle.m88_base.proofs.Laws.{at_most, cut_found, same_text, split_first, value_told}
use Rattle.m88_base.specs.Cut.{Lacks, split_at_byte}
use Rattle.m88_base.specs.Numerals.{is_numeral, number_in}
use Rattle.m88_session.specs.Numbers.{IsShortNumber}
use Rattle.m88_session.specs.Script.{AreMemoryOperands, HasOperand, IsCount, WritesAddress, WritesCommand, most_steps, most_words}
use Rattle.m88_session.specs.declared.script.MonitorCommand.{MonitorCommand}
use Rattle.m88_session.specs.declared.script.MonitorCommand.TheVariants.{Step, Go, Break, Regs, Pipe, Memory, Drain, Trace}
use Rattle.m88_session.proofs.Numerals.{short_found, short_told}
use Rattle.m88_session.proofs.ScriptLines.{are_parts, place_has_none, place_is_small, same_operand}

-- something is written, or nothing
abbrev IsWritten : {A : Type 0} → (A → Type 0) → Type 0
IsWritten {A = A} Writes = ((a : A) × Writes a) ⊎ ((a : A) → Writes a → ⊥)

-- short numbers up to a greatest
number_told : (base most_digits most : ℕ) (text : List ℕ) → IsWritten (λ n. IsShortNumber base most_digits text n × (n ≤ most))
number_told base most_digits most text = elim (at_most (length text) most_digits) [
  | inr long ↦ inr (λ n h. long h.0.short)
  | inl short ↦ by_value short (number_in base most text) refl
]
  where
    by_value : length text ≤ most_digits → (o : Option ℕ) → o ≡ number_in base most text
        → IsWritten (λ n. IsShortNumber base most_digits text n × (n ≤ most))
    by_value short None e = inr (λ n h. let told : None ≡ Some n = e ∙ short_told base most_digits most n text h.1 h.0 in absurd cc)
    by_value short (Some n) e =
        let k = value_told (is_numeral base text) (nat_le (digits_value base text) most) (digits_value base text) n (sym e) in
        let small = leb-true (digits_value base text) most k.1 in
        inl (n, (short_found base most_digits most text (Some n) short e, omega (arith, small, k.2)))

count_told : (most : ℕ) (text : List ℕ) → IsWritten (IsCount most text)
count_told most text = elim (number_told 10 7 most text) [
  | inr none ↦ inr (λ n h. none n (h.number, h.few))
  | inl found ↦ elim (at_most 1 found.0) [
    | inl some ↦ inl (found.0, record { number = found.1.0; some = some; few = found.1.1 })
    | inr few ↦ inr (λ n h. few (subst (λ k. 1 ≤ k) (h.number.value ∙ sym found.1.0.value) h.some))
  ]
]

address_told : (text : List ℕ) → IsWritten (WritesAddress text)
address_told text = elim (number_told 16 8 4294967295 text) [
  | inl found ↦ inl (found.0, found.1.0)
  | inr none ↦ inr (λ address h. none address (h, place_is_small text address h))
]

-- an address and a count, with a blank between them
operands_told : (text : List ℕ) → IsWritten (λ (p : ℕ × ℕ). AreMemoryOperands text p.0 p.1)
operands_told text = by_cut (split_at_byte 32 text) refl
  where
    by_parts : (place digits : List ℕ) → text ≡ place ++ 32 ∷ digits → Lacks 32 place
        → IsWritten (λ (p : ℕ × ℕ). AreMemoryOperands text p.0 p.1)
    by_parts place digits e none = elim (address_told place) [
      | inr no_place ↦ inr (λ p h. no_place p.0 (are_parts text place digits p.0 p.1 e none h).is_place)
      | inl address ↦ elim (count_told most_words digits) [
        | inr no_count ↦ inr (λ p h. no_count p.1 (are_parts text place digits p.0 p.1 e none h).is_count)
        | inl count ↦ inl (
          (address.0, count.0),
          record { place = place; digits = digits; text_is = e ∙ sym (append_assoc place (codes " ") digits); is_place = address.1; is_count = count.1 },
        )
      ]
    ]

    by_cut : (o : Option (List ℕ × List ℕ)) → split_at_byte 32 text ≡ o → IsWritten (λ (p : ℕ × ℕ). AreMemoryOperands text p.0 p.1)
    by_cut (Some p) e = let cut = cut_found 32 text p e in by_parts p.0 p.1 cut.text_is cut.lacking
    by_cut None e =
        inr (λ p h.
        let cut : split_at_byte 32 text ≡ Some (h.place, h.digits) =
        ap (split_at_byte 32) (h.text_is ∙ append_assoc h.place (codes " ") h.digits) ∙ split_first 32 h.place h.digits (place_has_none h.place p.0 h.is_place) in
        let clash : None ≡ Some (h.place, h.digits) = sym e ∙ cut in absurd cc)

-- what stands behind a text that begins a line
behind_told : (front line : List ℕ) → IsWritten (λ (rest : List ℕ). line ≡ front ++ rest)
behind_told [] line = inl (line, refl)
behind_told (f ∷ front) [] = inr (λ rest e. absurd cc)
behind_told (f ∷ front) (b ∷ line) = elim (cases_eq b f) [
  | inr other ↦ inr (λ rest e. other (let same : b ≡ f = cc in same))
  | inl first ↦ elim (behind_told front line) [
    | inr none ↦ inr (λ rest e. none rest (let same : line ≡ front ++ rest = cc in same))
    | inl found ↦ inl (found.0, (let is = found.1 in let both : b ∷ line ≡ f ∷ front ++ found.0 = cc in both))
  ]
]

-- a name with an operand behind it
named_told : {A : Type 0} (name : List ℕ) (IsSuch : A → List ℕ → Type 0) → ((text : List ℕ) → IsWritten (λ (a : A). IsSuch a text))
    → (line : List ℕ) → IsWritten (λ (a : A). HasOperand name (IsSuch a) line)
named_told name IsSuch told line = elim (behind_told (name ++ codes " ") line) [
  | inr none ↦ inr (λ a h. none h.operand h.line_is)
  | inl rest ↦ by_operand rest.0 rest.1
]
  where
    by_operand : (text : List ℕ) → line ≡ name ++ codes " " ++ text → IsWritten (λ a. HasOperand name (IsSuch a) line)
    by_operand text e = elim (told text) [
      | inr none ↦ inr (λ a h. none a (same_operand name (IsSuch a) line text e h))
      | inl found ↦ inl (found.0, record { operand = text; line_is = e; is_such = found.1 })
    ]

module _ (line : List ℕ) where
  -- one command, or else another
  or_else : {Y N : Type 0} → Y ⊎ N → (Y → (c : MonitorCommand) × WritesCommand c line)
      → (N → IsWritten (λ c. WritesCommand c line)) → IsWritten (λ c. WritesCommand c line)
  or_else (inl is) found other = inl (found is)
  or_else (inr none) found other = other none

  -- no command, where none of each kind is written
  none_written : ((n : ℕ) → WritesCommand (Step n) line → ⊥) → ((n : ℕ) → WritesCommand (Trace n) line → ⊥)
      → ((address : ℕ) → WritesCommand (Break address) line → ⊥) → ((p : ℕ × ℕ) → WritesCommand (Memory p.0 p.1) line → ⊥)
      → (line ≡ codes "go" → ⊥) → (line ≡ codes "regs" → ⊥) → (line ≡ codes "pipe" → ⊥) → (line ≡ codes "drain" → ⊥)
      → (c : MonitorCommand) → WritesCommand c line → ⊥
  none_written step trace break memory go regs pipe drain (Step n) h = step n h
  none_written step trace break memory go regs pipe drain (Trace n) h = trace n h
  none_written step trace break memory go regs pipe drain (Break address) h = break address h
  none_written step trace break memory go regs pipe drain (Memory address count) h = memory (address, count) h
  none_written step trace break memory go regs pipe drain Go h = go h
  none_written step trace break memory go regs pipe drain Regs h = regs h
  none_written step trace break memory go regs pipe drain Pipe h = pipe h
  none_written step trace break memory go regs pipe drain Drain h = drain h

  -- a command with an operand, or one of its own line
  pub command_told : IsWritten (λ c. WritesCommand c line)
  command_told =
      or_else (named_told (codes "step") (λ n text. IsCount most_steps text n) (count_told most_steps) line)
      (λ h. (Step h.0, h.1)) (λ step.
      or_else (named_told (codes "trace") (λ n text. IsCount most_steps text n) (count_told most_steps) line)
      (λ h. (Trace h.0, h.1)) (λ trace.
      or_else (named_told (codes "break") (λ n text. WritesAddress text n) address_told line)
      (λ h. (Break h.0, h.1)) (λ break.
      or_else (named_told (codes "mem") (λ (p : ℕ × ℕ) text. AreMemoryOperands text p.0 p.1) operands_told line)
      (λ h. (Memory h.0.0 h.0.1, h.1)) (λ memory.
      or_else (same_text line (codes "go")) (λ is. (Go, is)) (λ go.
      or_else (same_text line (codes "regs")) (λ is. (Regs, is)) (λ regs.
      or_else (same_text line (codes "pipe")) (λ is. (Pipe, is)) (λ pipe.
      or_else (same_text line (codes "drain")) (λ is. (Drain, is)) (λ drain.
      inr (none_written step trace break memory go regs pipe drain)))))))))
