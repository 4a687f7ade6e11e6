-- Every image holds a program: at each address the instruction of the word there, where there is one.
use Rattle.std.specs.Prelude.{ℕ, ℤ, Bool, pos, negsuc, zero, suc, List, [], ◌∷◌, Option, Some, None, IfSome, MatchOption, ◌≡◌, ◌⊎◌, ◌≤◌, ◌<◌, ◌+◌, ◌%◌, ◌^◌, ◌==◌, nat_lt, get_or, unwrap_or}
use Rattle.std.specs.Int.{from_be_bytes, to_be_bytes, w32}
use Rattle.std.proofs.Common.{arith, refl, sym, subst, ap, ◌∙◌, inl, inr}
use Rattle.std.proofs.lemmas.Bool.Decides.{nat_tests}
use Rattle.std.proofs.lemmas.Nat.{be_bytes_4, from_be_bytes-to_be_bytes_4}
use Rattle.std.proofs.lemmas.Option.{none-some}
use Rattle.m88_base.specs.Image.{IsImage, ProgramImage, byte_at}
use Rattle.m88_isa.proofs.Laws.{by_test, word_small}
use Rattle.m88_isa.specs.ImageProgram.{IsProgramOf}
use Rattle.m88_isa.specs.Instr.{FitsWords, IsValid, IsWidth}
use Rattle.m88_isa.specs.Machine.{Program, word_bytes}
use Rattle.m88_isa.specs.Word.{IsWord, word_of}
use Rattle.m88_isa.specs.declared.instr.BitOp.{BitOp}
use Rattle.m88_isa.specs.declared.instr.BitOp.TheVariants.{Rot}
use Rattle.m88_isa.specs.declared.instr.Instr.{Instr}
use Rattle.m88_isa.specs.declared.instr.Instr.TheVariants as instr
use Rattle.m88_codec.specs.Inside.Candidate.{candidate_of}
use Rattle.m88_codec.proofs.Law.{candidate_law}

-- a fact that holds or doesn't
abbrev Decided : Type 0 → Type 0
Decided P = P ⊎ (P → ⊥)

both : {P Q : Type 0} → Decided P → Decided Q → Decided (P × Q)
both (inl p) (inl q) = inl (p, q)
both (inl p) (inr never) = inr (λ h. never h.1)
both (inr never) q = inr (λ h. never h.0)

below : (a b : ℕ) → Decided (a < b)
below a b = by_test (nat_lt a b) (λ t. inl (grind (arith, nat_tests))) (λ f. inr (λ h. absurd (grind (arith, nat_tests))))

equal : (a b : ℕ) → Decided (a ≡ b)
equal a b = by_test (a == b) (λ t. inl (grind (arith, nat_tests))) (λ f. inr (λ h. absurd (grind (arith, nat_tests))))

width_decided : (op : BitOp) (width : ℕ) → Decided (IsWidth op width)
width_decided Rot width = equal width 0
width_decided _ width = below width 32

words_decided : (bits : ℕ) (words : ℤ) → Decided (FitsWords bits words)
words_decided bits (pos n) = below n (2 ^ bits)
words_decided bits (negsuc n) = below n (2 ^ bits)

unit_decided : (unit rest : ℕ) → Decided ((1 ≤ unit) × (unit < 8) × (rest < 2 ^ 26))
unit_decided zero rest = inr (λ h. absurd (omega (arith, h.0)))
unit_decided (suc n) rest = elim (both (below (suc n) 8) (below rest (2 ^ 26))) [
  | inl h ↦ inl (omega arith, h.0, h.1)
  | inr never ↦ inr (λ h. never (h.1, h.2))
]

valid_decided : (i : Instr) → Decided (IsValid i)
valid_decided (instr.Imm op d s1 imm) = below imm (2 ^ 16)
valid_decided (instr.Regs op d s1 s2) = inl tt
valid_decided (instr.MemImm op d s1 imm) = below imm (2 ^ 16)
valid_decided (instr.MemReg op d s1 s2 scaled usr) = inl tt
valid_decided (instr.Lda size d s1 s2) = inl tt
valid_decided (instr.BitLit op d s1 width offset) = both (width_decided op width) (below offset 32)
valid_decided (instr.BitReg op d s1 s2) = inl tt
valid_decided (instr.Find ones d s2) = inl tt
valid_decided (instr.Branch link delayed words) = words_decided 25 words
valid_decided (instr.BranchBit set delayed bit s1 words) = both (below bit 32) (words_decided 15 words)
valid_decided (instr.BranchCond delayed mask s1 words) = both (below mask 16) (words_decided 15 words)
valid_decided (instr.Jump link delayed s2) = inl tt
valid_decided (instr.TrapBit set bit s1 vector) = both (below bit 32) (below vector 512)
valid_decided (instr.TrapCond mask s1 vector) = both (below mask 16) (below vector 512)
valid_decided (instr.BoundImm s1 imm) = below imm (2 ^ 16)
valid_decided (instr.BoundReg s1 s2) = inl tt
valid_decided instr.Rte = inl tt
valid_decided (instr.Ldcr d cr float) = below cr 64
valid_decided (instr.Stcr s1 cr float) = below cr 64
valid_decided (instr.Xcr d s1 cr float) = below cr 64
valid_decided (instr.Sfu unit rest) = unit_decided unit rest

-- an instruction has a word or not
word_decided : (i : Instr) (word : ℕ) → Decided (IsWord i word)
word_decided i word = both (valid_decided i) (equal (word_of i) word)

-- the only instruction that can have a word is its candidate
of_candidate : (i : Instr) (word : ℕ) → IsWord i word → IsWord (candidate_of word) word
of_candidate i word is =
    subst (λ (j : Instr). IsWord j word) (sym (ap candidate_of (sym is.1) ∙ candidate_law i is.0)) is

-- four bytes at a multiple of 4 are the word of an instruction
abbrev HasWord : ℕ → Option (List ℕ) → Instr → Type 0
HasWord a bytes i = (a % 4 ≡ 0) × ((word : ℕ) × (bytes ≡ Some (to_be_bytes w32 word)) × IsWord i word)

-- the instruction of four bytes, or none where they are the word of none
abbrev Reading : ℕ → Option (List ℕ) → Type 0
Reading a bytes = (o : Option Instr) × MatchOption o ((i : Instr) → HasWord a bytes i → ⊥) (HasWord a bytes)

no_reading : (a : ℕ) → Reading a None
no_reading a = (None, λ i h. none-some (to_be_bytes w32 h.1.0) h.1.1)

-- the word that four bytes are
bytes_of_word : (bytes : List ℕ) (i : Instr) (word : ℕ) → IsWord i word → Some bytes ≡ Some (to_be_bytes w32 word) →
    from_be_bytes w32 bytes ≡ word
bytes_of_word bytes i word is same =
    ap (λ (o : Option (List ℕ)). from_be_bytes w32 (unwrap_or o [])) same
    ∙ from_be_bytes-to_be_bytes_4 word (subst (λ w. w < 2 ^ 32) is.1 (word_small i is.0))

reading : (a : ℕ) (bytes : List ℕ) → to_be_bytes w32 (from_be_bytes w32 bytes) ≡ bytes → Reading a (Some bytes)
reading a bytes same =
    let word = from_be_bytes w32 bytes in
    elim (both (equal (a % 4) 0) (word_decided (candidate_of word) word)) [
      | inl h ↦ (Some (candidate_of word), (h.0, (word, ap Some (sym same), h.1)))
      | inr never ↦ (
        None,
        λ i h.
            let is = subst (λ w. IsWord i w) (sym (bytes_of_word bytes i h.1.0 h.1.2 h.1.1)) h.1.2 in
            never (h.0, of_candidate i word is),
      )
    ]

byte_below : (b0 b1 b2 b3 : ℕ) → b0 < 256 → b1 < 256 → b2 < 256 → b3 < 256 → (i : ℕ) →
    get_or (b0 ∷ b1 ∷ b2 ∷ b3 ∷ []) i 0 < 256
byte_below b0 b1 b2 b3 h0 h1 h2 h3 zero = h0
byte_below b0 b1 b2 b3 h0 h1 h2 h3 (suc zero) = h1
byte_below b0 b1 b2 b3 h0 h1 h2 h3 (suc (suc zero)) = h2
byte_below b0 b1 b2 b3 h0 h1 h2 h3 (suc (suc (suc zero))) = h3
byte_below b0 b1 b2 b3 h0 h1 h2 h3 (suc (suc (suc (suc i)))) = omega arith

-- a byte that is there is one
abbrev IsByte : ℕ → Option ℕ → Type 0
IsByte a o = IfSome o (λ b. (a < 2 ^ 32) × (b < 256))

read : (a : ℕ) (o0 o1 o2 o3 : Option ℕ) → IsByte a o0 → IsByte (a + 1) o1 → IsByte (a + 2) o2 → IsByte (a + 3) o3 →
    Reading a (word_bytes o0 o1 o2 o3)
read a (Some b0) (Some b1) (Some b2) (Some b3) h0 h1 h2 h3 =
    reading a (b0 ∷ b1 ∷ b2 ∷ b3 ∷ [])
    (be_bytes_4 (b0 ∷ b1 ∷ b2 ∷ b3 ∷ []) _ refl (byte_below b0 b1 b2 b3 h0.1 h1.1 h2.1 h3.1) refl)
read a None o1 o2 o3 h0 h1 h2 h3 = no_reading a
read a (Some b0) None o2 o3 h0 h1 h2 h3 = no_reading a
read a (Some b0) (Some b1) None o3 h0 h1 h2 h3 = no_reading a
read a (Some b0) (Some b1) (Some b2) None h0 h1 h2 h3 = no_reading a

-- what an image has at an address
read_at : (image : ProgramImage) → IsImage image → (a : ℕ) →
    Reading a (word_bytes (byte_at image a) (byte_at image (a + 1)) (byte_at image (a + 2)) (byte_at image (a + 3)))
read_at image is a =
    read a (byte_at image a) (byte_at image (a + 1)) (byte_at image (a + 2)) (byte_at image (a + 3)) (is.bytes a)
    (is.bytes (a + 1)) (is.bytes (a + 2)) (is.bytes (a + 3))

-- every image holds a program
pub some_program : (mxm : Bool) (image : ProgramImage) → IsImage image → (p : Program) × IsProgramOf image p
some_program mxm image is = (
  record { mxm = mxm; start = image.start; byte = byte_at image; instruction = λ a. (read_at image is a).0 },
  record { start = refl; bytes = refl; instructions = λ a. (read_at image is a).1 },
)

-- one that it holds
abbrev pub program_in : (mxm : Bool) (image : ProgramImage) → IsImage image → Program
program_in mxm image is = (some_program mxm image is).0

pub program_in_holds : (mxm : Bool) (image : ProgramImage) (is : IsImage image) → IsProgramOf image (program_in mxm image is)
program_in_holds mxm image is = (some_program mxm image is).1

pub program_in_mxm : (mxm : Bool) (image : ProgramImage) (is : IsImage image) → (program_in mxm image is).mxm ≡ mxm
unfolding some_program
program_in_mxm mxm image is = refl
