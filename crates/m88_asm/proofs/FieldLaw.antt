-- The field law: the word of the filled instruction is the patched word of the waiting one, and the filled one is valid.
use Rattle.std.proofs.Common.{ℕ, ℤ, pos, negsuc, Bool, true, false, ◌≡◌, ◌+◌, ◌-◌, ◌*◌, ◌/◌, ◌%◌, ◌^◌, ◌<◌, ◌≤◌, ◌⊎◌, inl, inr, refl, subst, arith}
use Rattle.std.specs.Prelude.{nat_lt}
use Rattle.std.proofs.lemmas.Bool.{ltb-true, ltb-false, cond_both}
use Rattle.std.proofs.lemmas.Bool.Decides.{nat_tests}
use Rattle.std.proofs.lemmas.Nat.{mod_below}
use Rattle.std.proofs.Math.Dec.{lit<}
use Rattle.m88_base.specs.declared.reg.Reg.{Reg}
use Rattle.m88_base.specs.Reg.{number_of}
use Rattle.m88_base.specs.declared.fixup.Kind.{Kind}
use Rattle.m88_base.specs.declared.fixup.Kind.TheVariants.{Hi16, Lo16, Pc26, Pc16, Abs32}
use Rattle.m88_isa.specs.Instr.{IsValid, FitsWords}
use Rattle.m88_isa.specs.Compute.{weight_if}
use Rattle.m88_isa.specs.Word.{IsWord, word_of, mem_byte, imm_byte, low16, low26}
use Rattle.m88_isa.specs.declared.instr.ImmOp.{ImmOp}
use Rattle.m88_isa.specs.declared.instr.MemOp.{MemOp}
use Rattle.m88_isa.specs.declared.instr.Instr.{Instr}
use Rattle.m88_isa.specs.declared.instr.Instr.TheVariants.{Imm, MemImm, Branch, BranchBit, BranchCond}
use Rattle.m88_parse.specs.WellFormed.{Waits}
use Rattle.m88_link.specs.Field.{distance, is_in_reach, is_near, patched_word}
use Rattle.m88_asm.specs.Filled.{half_of, with_field, words_of}

-- a field of 16 bits behind a head
half_law : (kind : Kind) (head t p imm : ℕ) → (kind ≡ Hi16) ⊎ (kind ≡ Lo16) → head % 2 ^ 16 ≡ 0 → imm ≡ 0
    → head + half_of kind t ≡ patched_word kind (head + imm) t p
half_law Hi16 head t p imm h e z = omega arith
half_law Lo16 head t p imm h e z = omega arith
half_law Pc26 head t p imm (inl h) e z = cc
half_law Pc26 head t p imm (inr h) e z = cc
half_law Pc16 head t p imm (inl h) e z = cc
half_law Pc16 head t p imm (inr h) e z = cc
half_law Abs32 head t p imm (inl h) e z = cc
half_law Abs32 head t p imm (inr h) e z = cc

half_bound : (kind : Kind) (t : ℕ) → t < 2 ^ 32 → half_of kind t < 2 ^ 16
half_bound Hi16 t h = omega arith
half_bound Lo16 t h = omega arith
half_bound Pc26 t h = omega arith
half_bound Pc16 t h = omega arith
half_bound Abs32 t h = omega arith

-- the low bits of a count of words are those of the distance
low26-pos : (d : ℕ) → d < 2 ^ 31 → low26 (pos (d / 4)) ≡ d / 4 % 2 ^ 26
low26-pos d h = omega arith

low26-negsuc : (d : ℕ) → 2 ^ 31 ≤ d → d < 2 ^ 32 → d % 4 ≡ 0 → low26 (negsuc ((2 ^ 32 - d) / 4 - 1)) ≡ d / 4 % 2 ^ 26
low26-negsuc d h l e = omega arith

low16-pos : (d : ℕ) → d < 2 ^ 17 → low16 (pos (d / 4)) ≡ d / 4 % 2 ^ 16
low16-pos d h = omega arith

low16-negsuc : (d : ℕ) → 2 ^ 32 - 2 ^ 17 ≤ d → d < 2 ^ 32 → d % 4 ≡ 0 → low16 (negsuc ((2 ^ 32 - d) / 4 - 1)) ≡ d / 4 % 2 ^ 16
low16-negsuc d h l e = omega arith

low26-words_of : (d : ℕ) → d < 2 ^ 32 → d % 4 ≡ 0 → low26 (words_of d) ≡ d / 4 % 2 ^ 26
low26-words_of d l e = cond_both (nat_lt d (2 ^ 31)) (pos (d / 4)) (negsuc ((2 ^ 32 - d) / 4 - 1)) (λ w. low26 w ≡ d / 4 % 2 ^ 26)
    (λ t. low26-pos d (ltb-true d (2 ^ 31) t)) (λ f. low26-negsuc d (ltb-false d (2 ^ 31) f) l e)

low16-words_of : (d : ℕ) → d < 2 ^ 32 → d % 4 ≡ 0 → (d < 2 ^ 17) ⊎ (2 ^ 32 - 2 ^ 17 ≤ d) → low16 (words_of d) ≡ d / 4 % 2 ^ 16
low16-words_of d l e n = cond_both (nat_lt d (2 ^ 31)) (pos (d / 4)) (negsuc ((2 ^ 32 - d) / 4 - 1)) (λ w. low16 w ≡ d / 4 % 2 ^ 16)
    (λ t. let b = ltb-true d (2 ^ 31) t in low16-pos d (omega arith)) (λ f. let b = ltb-false d (2 ^ 31) f in low16-negsuc d (omega arith) l e)

-- what is near fits
near_parts : (width d : ℕ) → is_near width d ≡ true → (d % 4 ≡ 0) × ((d < 2 ^ (width + 1)) ⊎ (2 ^ 32 - 2 ^ (width + 1) ≤ d))
near_parts width d h = (grind (arith, nat_tests), grind (arith, nat_tests))

fits26 : (d : ℕ) → d < 2 ^ 32 → d % 4 ≡ 0 → (d < 2 ^ 27) ⊎ (2 ^ 32 - 2 ^ 27 ≤ d) → FitsWords 25 (words_of d)
fits26 d l e h = cond_both (nat_lt d (2 ^ 31)) (pos (d / 4)) (negsuc ((2 ^ 32 - d) / 4 - 1)) (FitsWords 25)
    (λ t. let b = ltb-true d (2 ^ 31) t in omega arith) (λ f. let b = ltb-false d (2 ^ 31) f in omega arith)

fits16 : (d : ℕ) → d < 2 ^ 32 → d % 4 ≡ 0 → (d < 2 ^ 17) ⊎ (2 ^ 32 - 2 ^ 17 ≤ d) → FitsWords 15 (words_of d)
fits16 d l e h = cond_both (nat_lt d (2 ^ 31)) (pos (d / 4)) (negsuc ((2 ^ 32 - d) / 4 - 1)) (FitsWords 15)
    (λ t. let b = ltb-true d (2 ^ 31) t in omega arith) (λ f. let b = ltb-false d (2 ^ 31) f in omega arith)

-- a branch's field behind its head
branch26 : (head d t p : ℕ) (words : ℤ) (kind : Kind) → kind ≡ Pc26 → words ≡ pos 0 → head % 2 ^ 26 ≡ 0 → distance t p ≡ d → d % 4 ≡ 0 → d < 2 ^ 32
    → head + low26 (words_of d) ≡ patched_word kind (head + low26 words) t p
branch26 head d t p words kind k z e i m l = rw (k, z, low26-words_of d l m, ← i) (omega arith)

branch16 : (head d t p : ℕ) (words : ℤ) (kind : Kind) → kind ≡ Pc16 → words ≡ pos 0 → head % 2 ^ 16 ≡ 0 → distance t p ≡ d → d % 4 ≡ 0 → d < 2 ^ 32
    → (d < 2 ^ 17) ⊎ (2 ^ 32 - 2 ^ 17 ≤ d) → head + low16 (words_of d) ≡ patched_word kind (head + low16 words) t p
branch16 head d t p words kind k z e i m l n = rw (k, z, low16-words_of d l m n, ← i) (omega arith)

reach26 : (kind : Kind) (t p : ℕ) → kind ≡ Pc26 → is_in_reach kind t p ≡ true → is_near 26 (distance t p) ≡ true
reach26 kind t p k h = subst (λ x. is_in_reach x t p ≡ true) k h

reach16 : (kind : Kind) (t p : ℕ) → kind ≡ Pc16 → is_in_reach kind t p ≡ true → is_near 16 (distance t p) ≡ true
reach16 kind t p k h = subst (λ x. is_in_reach x t p ≡ true) k h

branch_head26 : (link delayed : Bool) → (0xC0000000 + weight_if link (2 ^ 27) + weight_if delayed (2 ^ 26)) % 2 ^ 26 ≡ 0
branch_head26 true true = refl
branch_head26 true false = refl
branch_head26 false true = refl
branch_head26 false false = refl

head16 : (first d s1 : ℕ) → first % 2 ^ 16 ≡ 0 → (first + d * 2 ^ 21 + s1 * 2 ^ 16) % 2 ^ 16 ≡ 0
head16 first d s1 h = omega arith

marks16 : (base : ℕ) (set delayed : Bool) → base % 2 ^ 16 ≡ 0 → (base + weight_if set (2 ^ 27) + weight_if delayed (2 ^ 26)) % 2 ^ 16 ≡ 0
marks16 base true true h = omega arith
marks16 base true false h = omega arith
marks16 base false true h = omega arith
marks16 base false false h = omega arith

mark16 : (base : ℕ) (delayed : Bool) → base % 2 ^ 16 ≡ 0 → (base + weight_if delayed (2 ^ 26)) % 2 ^ 16 ≡ 0
mark16 base true h = omega arith
mark16 base false h = omega arith

distance_bound : (t p : ℕ) → distance t p < 2 ^ 32
distance_bound t p = mod_below (t + (2 ^ 32 - p)) (2 ^ 32) (lit< tt)

-- the filled instruction has the patched word
pub field_law : (i : Instr) (kind : Kind) (t p : ℕ) → IsValid i → Waits i kind → t < 2 ^ 32 → is_in_reach kind t p ≡ true
    → IsWord (with_field i kind t p) (patched_word kind (word_of i) t p)
field_law (Imm op d s1 imm) kind t p v w b r =
    (half_bound kind t b, half_law kind _ t p imm w.1 (omega arith) w.0)
field_law (MemImm op d s1 imm) kind t p v w b r =
    (half_bound kind t b, half_law kind _ t p imm w.1 (omega arith) w.0)
field_law (Branch link delayed words) kind t p v w b r =
    let n = near_parts 26 (distance t p) (reach26 kind t p w.1 r) in (
      fits26 (distance t p) (distance_bound t p) n.0 n.1,
      branch26 _ (distance t p) t p words kind w.1 w.0 (branch_head26 link delayed) refl n.0 (distance_bound t p),
    )
field_law (BranchBit set delayed bit s1 words) kind t p v w b r =
    let n = near_parts 16 (distance t p) (reach16 kind t p w.1 r) in (
      (v.0, fits16 (distance t p) (distance_bound t p) n.0 n.1),
      branch16 _ (distance t p) t p words kind w.1 w.0 (head16 _ bit (number_of s1) (marks16 0xD0000000 set delayed refl)) refl n.0 (distance_bound t p) n.1,
    )
field_law (BranchCond delayed mask s1 words) kind t p v w b r =
    let n = near_parts 16 (distance t p) (reach16 kind t p w.1 r) in (
      (v.0, fits16 (distance t p) (distance_bound t p) n.0 n.1),
      branch16 _ (distance t p) t p words kind w.1 w.0 (head16 _ mask (number_of s1) (mark16 0xE8000000 delayed refl)) refl n.0 (distance_bound t p) n.1,
    )
field_law _ kind t p v w b r = absurd w

-- every word of an instruction that waits is below 2 ^ 32
imm_bound : (op : ImmOp) → imm_byte op ≤ 0x7C
imm_bound op = grind arith

mem_bound : (op : MemOp) → mem_byte op ≤ 0x2C
mem_bound op = grind arith

reg_bound : (r : Reg) → number_of r < 32
reg_bound r = r.in_range

branch_bound : (link delayed : Bool) (words : ℤ) → words ≡ pos 0 → 0xC0000000 + weight_if link (2 ^ 27) + weight_if delayed (2 ^ 26) + low26 words < 2 ^ 32
branch_bound true true words z = rw z (lit< tt)
branch_bound true false words z = rw z (lit< tt)
branch_bound false true words z = rw z (lit< tt)
branch_bound false false words z = rw z (lit< tt)

bit_bound : (set delayed : Bool) (bit s1 : ℕ) (words : ℤ) → words ≡ pos 0 → bit < 32 → s1 < 32
    → 0xD0000000 + weight_if set (2 ^ 27) + weight_if delayed (2 ^ 26) + bit * 2 ^ 21 + s1 * 2 ^ 16 + low16 words < 2 ^ 32
bit_bound true true bit s1 words z b s = rw z (omega arith)
bit_bound true false bit s1 words z b s = rw z (omega arith)
bit_bound false true bit s1 words z b s = rw z (omega arith)
bit_bound false false bit s1 words z b s = rw z (omega arith)

cond_bound : (delayed : Bool) (mask s1 : ℕ) (words : ℤ) → words ≡ pos 0 → mask < 16 → s1 < 32
    → 0xE8000000 + weight_if delayed (2 ^ 26) + mask * 2 ^ 21 + s1 * 2 ^ 16 + low16 words < 2 ^ 32
cond_bound true mask s1 words z b s = rw z (omega arith)
cond_bound false mask s1 words z b s = rw z (omega arith)

pub waiting_bound : (i : Instr) (kind : Kind) → IsValid i → Waits i kind → word_of i < 2 ^ 32
waiting_bound (Imm op d s1 imm) kind v w = let o = imm_bound op in let a = reg_bound d in let b = reg_bound s1 in omega arith
waiting_bound (MemImm op d s1 imm) kind v w = let o = mem_bound op in let a = reg_bound d in let b = reg_bound s1 in omega arith
waiting_bound (Branch link delayed words) kind v w = branch_bound link delayed words w.0
waiting_bound (BranchBit set delayed bit s1 words) kind v w = bit_bound set delayed bit (number_of s1) words w.0 v.0 (reg_bound s1)
waiting_bound (BranchCond delayed mask s1 words) kind v w = cond_bound delayed mask (number_of s1) words w.0 v.0 (reg_bound s1)
waiting_bound _ kind v w = absurd w
