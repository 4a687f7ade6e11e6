-- A word whose form leaves no field unused is the word of its candidate. A lemma a form, in the order of the opening
-- bits.
use Rattle.std.proofs.Common.{ℕ, true, ◌≡◌, ◌+◌, ◌-◌, ◌*◌, ◌/◌, ◌%◌, ◌^◌, ◌<◌, ◌≤◌, ◌⊎◌, inl, inr, nat_le, refl, sym, subst, arith}
use Rattle.std.specs.Int.{w16}
use Rattle.std.proofs.lemmas.Bool.Decides.{nat_tests}
use Rattle.std.proofs.lemmas.Int.{of_z-to_z}
use Rattle.m88_base.specs.Reg.{reg_of}
use Rattle.m88_isa.specs.Compute.{weight_if}
use Rattle.m88_isa.specs.Instr.{FitsWords}
use Rattle.m88_isa.specs.Word.{IsWord, imm_byte, low16, low26, mem_byte}
use Rattle.m88_isa.specs.declared.instr.Instr.{Instr}
use Rattle.m88_isa.specs.declared.instr.Instr.TheVariants as instr
use Rattle.m88_codec.specs.Inside.Candidate.{
  candidate_of,
  candidate_at,
  imm_op_at,
  is_odd,
  mem_op_at,
  words16,
  words26,
}
use Rattle.m88_codec.specs.Inside.Whole.{leaves_no_field_unused}

-- an instruction is a word's, if one that is the same is
word_of_same : (w : ℕ) (i j : Instr) → i ≡ j → IsWord j w → IsWord i w
word_of_same w i j e = subst (λ k. IsWord k w) (sym e)

-- the first byte of a mnemonic is its opening bits with two zero bits behind
mem_code : (head : ℕ) → head ≤ 11 → mem_byte (mem_op_at head) ≡ 4 * head
unfolding mem_op_at
mem_code head h = grind (arith, nat_tests)

mem_whole : (w : ℕ) → w / 2 ^ 26 ≤ 11 → IsWord (candidate_of w) w
unfolding candidate_of candidate_at
mem_whole w h =
    let code = mem_code (w / 2 ^ 26) h in
    word_of_same w _ (instr.MemImm (mem_op_at (w / 2 ^ 26)) (reg_of (w / 2 ^ 21)) (reg_of (w / 2 ^ 16)) (w % 2 ^ 16))
    (grind (arith, nat_tests)) (omega arith, omega arith)

imm_code : (head : ℕ) → 16 ≤ head → head ≤ 31 → imm_byte (imm_op_at head) ≡ 4 * head
unfolding imm_op_at
imm_code head l h = grind (arith, nat_tests)

imm_whole : (w : ℕ) → 16 ≤ w / 2 ^ 26 → w / 2 ^ 26 ≤ 31 → IsWord (candidate_of w) w
unfolding candidate_of candidate_at
imm_whole w l h =
    let code = imm_code (w / 2 ^ 26) l h in
    word_of_same w _ (instr.Imm (imm_op_at (w / 2 ^ 26)) (reg_of (w / 2 ^ 21)) (reg_of (w / 2 ^ 16)) (w % 2 ^ 16))
    (grind (arith, nat_tests)) (omega arith, omega arith)

sfu_whole : (w : ℕ) → 33 ≤ w / 2 ^ 26 → w / 2 ^ 26 ≤ 39 → IsWord (candidate_of w) w
unfolding candidate_of candidate_at
sfu_whole w l h =
    word_of_same w _ (instr.Sfu (w / 2 ^ 26 - 32) (w % 2 ^ 26))
    (grind (arith, nat_tests)) ((omega arith, omega arith, omega arith), omega arith)

-- the two marks of a branch are the two low bits of its opening bits
marks : (base head : ℕ) → base % 4 ≡ 0 → base ≤ head → head < base + 4
    → base * 2 ^ 26 + weight_if (nat_le (base + 2) head) (2 ^ 27) + weight_if (is_odd head) (2 ^ 26) ≡ head * 2 ^ 26
marks base head e l h = grind (arith, nat_tests)

-- a field as a signed count of words, which fits the field and has these bits
fits26 : (n : ℕ) → n < 2 ^ 26 → FitsWords 25 (words26 n)
fits26 n h = grind (arith, nat_tests)

low26_words26 : (n : ℕ) → n < 2 ^ 26 → low26 (words26 n) ≡ n
low26_words26 n h = grind (arith, nat_tests)

fits16 : (n : ℕ) → n < 2 ^ 16 → FitsWords 15 (words16 n)
fits16 n h = grind (arith, nat_tests)

low16_words16 : (n : ℕ) → n < 2 ^ 16 → low16 (words16 n) ≡ n
low16_words16 n h = of_z-to_z w16 n h

branch_whole : (w : ℕ) → 48 ≤ w / 2 ^ 26 → w / 2 ^ 26 ≤ 51 → IsWord (candidate_of w) w
unfolding candidate_of candidate_at
branch_whole w l h =
    let sum = marks 48 (w / 2 ^ 26) refl l (omega arith) in
    let back = low26_words26 (w % 2 ^ 26) (omega arith) in
    word_of_same w _ (instr.Branch (nat_le 50 (w / 2 ^ 26)) (is_odd (w / 2 ^ 26)) (words26 (w % 2 ^ 26)))
    (grind (arith, nat_tests)) (fits26 _ (omega arith), omega arith)

branch_bit_whole : (w : ℕ) → 52 ≤ w / 2 ^ 26 → w / 2 ^ 26 ≤ 55 → IsWord (candidate_of w) w
unfolding candidate_of candidate_at
branch_bit_whole w l h =
    let sum = marks 52 (w / 2 ^ 26) refl l (omega arith) in
    let back = low16_words16 (w % 2 ^ 16) (omega arith) in
    word_of_same w _
    (instr.BranchBit (nat_le 54 (w / 2 ^ 26)) (is_odd (w / 2 ^ 26)) (w / 2 ^ 21 % 32) (reg_of (w / 2 ^ 16)) (words16 (w % 2 ^ 16)))
    (grind (arith, nat_tests)) ((omega arith, fits16 _ (omega arith)), omega arith)

-- the opening bits of such a word are those of one of these forms
form_of : (head : ℕ) → leaves_no_field_unused head ≡ true
    → (head ≤ 11) ⊎ ((16 ≤ head) × (head ≤ 31)) ⊎ ((33 ≤ head) × (head ≤ 39)) ⊎ ((48 ≤ head) × (head ≤ 51))
    ⊎ ((52 ≤ head) × (head ≤ 55))
form_of head h = grind (arith, nat_tests)

-- so each such word is the word of its candidate
pub whole_law : (w : ℕ) → leaves_no_field_unused (w / 2 ^ 26) ≡ true → IsWord (candidate_of w) w
whole_law w whole = elim (form_of (w / 2 ^ 26) whole) [
  | inl h ↦ mem_whole w h
  | inr (inl h) ↦ imm_whole w h.0 h.1
  | inr (inr (inl h)) ↦ sfu_whole w h.0 h.1
  | inr (inr (inr (inl h))) ↦ branch_whole w h.0 h.1
  | inr (inr (inr (inr h))) ↦ branch_bit_whole w h.0 h.1
]
