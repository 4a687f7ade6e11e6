-- The lines of a fault and those of registers, line by line.
use Rattle.std.specs.Prelude.{ℕ, Bool, true, false, List, [], ◌∷◌, ◌++◌, ◌≡◌, ◌+◌, ◌-◌, ◌<◌, ◌&&◌, ◌||◌, length, take}
use Rattle.std.proofs.Common.{refl, sym, ap, append_assoc, ◌∙◌}
use Rattle.std.proofs.lemmas.List.{append-nil}
use Rattle.m88_base.specs.Lines.{behind_line, lines_of}
use Rattle.m88_entries.proofs.Fronts.{HasFront, front_is, longer_front, longer_lines, no_front, nothing_before, whole_is}
use Rattle.m88_entries.specs.Told.{begins_register, fault_part, is_third, register_part}

-- so far no line of a register was met
pub record Splits (input rest : List ℕ) (passed : Bool) (n : ℕ) : Type 0 where
  pub front : HasFront input rest n
  pub faults : fault_part false (lines_of input) ≡ lines_of front.before ++ fault_part passed (lines_of rest)
  pub registers : register_part false (lines_of input) ≡ register_part passed (lines_of rest)

pub splits_first : (input : List ℕ) → Splits input input false 0
unfolding lines_of
splits_first input = record {
  front = no_front input;
  faults = ap (λ (front : List ℕ). lines_of front ++ fault_part false (lines_of input)) (sym (nothing_before input));
  registers = refl;
}

one_fault : (passed : Bool) (line : List ℕ) (lines : List (List ℕ)) → (passed && begins_register line) ≡ false
    → fault_part passed (line ∷ lines) ≡ line ∷ fault_part (passed || is_third line) lines
unfolding fault_part
one_fault passed line lines e = rw e refl

one_register : (passed : Bool) (line : List ℕ) (lines : List (List ℕ)) → (passed && begins_register line) ≡ false
    → register_part passed (line ∷ lines) ≡ register_part (passed || is_third line) lines
unfolding register_part
one_register passed line lines e = rw e refl

no_fault : (passed : Bool) (line : List ℕ) (lines : List (List ℕ)) → (passed && begins_register line) ≡ true
    → fault_part passed (line ∷ lines) ≡ []
unfolding fault_part
no_fault passed line lines e = rw e refl

all_registers : (passed : Bool) (line : List ℕ) (lines : List (List ℕ)) → (passed && begins_register line) ≡ true
    → register_part passed (line ∷ lines) ≡ line ∷ lines
unfolding register_part
all_registers passed line lines e = rw e refl

-- one line more
pub splits_more : (input rest line behind : List ℕ) (passed : Bool) (n : ℕ) → Splits input rest passed n
    → lines_of rest ≡ line ∷ lines_of behind → behind ≡ behind_line rest → 0 < length rest → (passed && begins_register line) ≡ false
    → Splits input behind (passed || is_third line) (n + 1)
splits_more input rest line behind passed n h lines after some other =
    let front = longer_front input rest line behind n h.front lines after some in
    record {
      front = front;
      faults = h.faults
          ∙ ap (λ ls. lines_of h.front.before ++ fault_part passed ls) lines
          ∙ ap (λ ls. lines_of h.front.before ++ ls) (one_fault passed line (lines_of behind) other)
          ∙ sym (append_assoc (lines_of h.front.before) (line ∷ []) (fault_part (passed || is_third line) (lines_of behind)))
          ∙ ap (λ ls. ls ++ fault_part (passed || is_third line) (lines_of behind)) (sym (longer_lines input rest line behind n h.front lines after some));
      registers = h.registers ∙ ap (register_part passed) lines ∙ one_register passed line (lines_of behind) other;
    }

-- what was parted
pub record IsSplit (input front rest : List ℕ) (n : ℕ) : Type 0 where
  pub faults : lines_of front ≡ fault_part false (lines_of input)
  pub registers : lines_of rest ≡ register_part false (lines_of input)
  pub number : n ≡ length (lines_of front)

-- the line of a register
pub splits_here : (input rest line behind front : List ℕ) (passed : Bool) (n : ℕ) → Splits input rest passed n
    → lines_of rest ≡ line ∷ lines_of behind → (passed && begins_register line) ≡ true
    → front ≡ take (length input - length rest) input → IsSplit input front rest n
splits_here input rest line behind front passed n h lines here cut =
    let same : front ≡ h.front.before = cut ∙ front_is input rest n h.front in
    record {
      faults = ap lines_of same ∙ sym (h.faults
          ∙ ap (λ ls. lines_of h.front.before ++ fault_part passed ls) lines
          ∙ ap (λ ls. lines_of h.front.before ++ ls) (no_fault passed line (lines_of behind) here)
          ∙ append-nil (lines_of h.front.before));
      registers = lines ∙ sym (h.registers ∙ ap (register_part passed) lines ∙ all_registers passed line (lines_of behind) here);
      number = h.front.number ∙ ap (λ f. length (lines_of f)) (sym same);
    }

none_left : (passed : Bool) → fault_part passed [] ≡ []
unfolding fault_part
none_left passed = refl

no_registers : (passed : Bool) → register_part passed [] ≡ []
unfolding register_part
no_registers passed = refl

no_lines : (rest : List ℕ) → rest ≡ [] → lines_of rest ≡ []
unfolding lines_of
no_lines rest none = ap lines_of none

-- no line of a register
pub splits_end : (input rest : List ℕ) (passed : Bool) (n : ℕ) → Splits input rest passed n → rest ≡ [] → IsSplit input input rest n
splits_end input rest passed n h none =
    let whole : lines_of input ≡ lines_of h.front.before = whole_is input rest n h.front none in
    record {
      faults = whole ∙ sym (h.faults
          ∙ ap (λ ls. lines_of h.front.before ++ fault_part passed ls) (no_lines rest none)
          ∙ ap (λ ls. lines_of h.front.before ++ ls) (none_left passed)
          ∙ append-nil (lines_of h.front.before));
      registers = no_lines rest none ∙ sym (h.registers ∙ ap (register_part passed) (no_lines rest none) ∙ no_registers passed);
      number = h.front.number ∙ ap length (sym whole);
    }
