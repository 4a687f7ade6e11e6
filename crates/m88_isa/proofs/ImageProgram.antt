-- The program of an image has bytes, and instructions that there are: at the four bytes of a word the one of that word.
use Rattle.std.specs.Prelude.{ℕ, List, [], Option, Some, None, unwrap_or, IfSome, MatchOption, ◌≡◌, ◌<◌, ◌%◌, ◌^◌}
use Rattle.std.specs.Int.{from_be_bytes, to_be_bytes, w32}
use Rattle.std.proofs.Common.{sym, subst, ap, ◌∙◌}
use Rattle.std.proofs.lemmas.Nat.{from_be_bytes-to_be_bytes_4}
use Rattle.m88_base.specs.Image.{IsImage, ProgramImage, byte_at}
use Rattle.m88_isa.proofs.Words.{word_small}
use Rattle.m88_isa.specs.ImageProgram.{IsInstructionAt, IsProgramOf}
use Rattle.m88_isa.specs.Instr.{IsValid}
use Rattle.m88_isa.specs.Machine.{IsProgram, Program, four_bytes}
use Rattle.m88_isa.specs.Word.{IsWord}
use Rattle.m88_isa.specs.declared.instr.Instr.{Instr}

valid_there : (byte : ℕ → Option ℕ) (a : ℕ) (o : Option Instr) → IsInstructionAt byte a o → IfSome o IsValid
valid_there byte a None h = tt
valid_there byte a (Some i) h = h.1.2.0

below : (o : Option ℕ) (a : ℕ) → IfSome o (λ b. (a < 2 ^ 32) × (b < 256)) → IfSome o (λ b. b < 2 ^ 8)
below None a h = tt
below (Some b) a h = h.1

pub program_of_image : (image : ProgramImage) (p : Program) → IsImage image → IsProgramOf image p → IsProgram p
program_of_image image p is of = record {
  bytes = subst (λ (byte : ℕ → Option ℕ). (a : ℕ) → IfSome (byte a) (λ b. b < 2 ^ 8)) (sym of.bytes)
      (λ a. below (byte_at image a) a (is.bytes a));
  instructions = λ a. valid_there (byte_at image) a (p.instruction a) (of.instructions a);
}

-- the bytes of two words are the same only where the words are
same_word : (a b : ℕ) → a < 2 ^ 32 → b < 2 ^ 32 → Some (to_be_bytes w32 a) ≡ Some (to_be_bytes w32 b) → a ≡ b
same_word a b first second same =
    sym (from_be_bytes-to_be_bytes_4 a first)
    ∙ ap (λ (o : Option (List ℕ)). from_be_bytes w32 (unwrap_or o [])) same
    ∙ from_be_bytes-to_be_bytes_4 b second

-- the instruction at a multiple of 4 where four bytes are those of a word is one of that word, or none has it
matches_word : (byte : ℕ → Option ℕ) (a word : ℕ) (o : Option Instr) → IsInstructionAt byte a o → a % 4 ≡ 0 →
    word < 2 ^ 32 →
    four_bytes byte a ≡ Some (to_be_bytes w32 word) →
    MatchOption o ((i : Instr) → ¬ IsWord i word) (λ i. IsWord i word)
matches_word byte a word None none aligned small there = λ i is. none i (aligned, (word, there, is))
matches_word byte a word (Some i) h aligned small there =
    let fits = subst (λ w. w < 2 ^ 32) h.1.2.1 (word_small i h.1.2.0) in
    (h.1.2.0, h.1.2.1 ∙ same_word h.1.0 word fits small (sym h.1.1 ∙ there))

pub instruction_at_word : (image : ProgramImage) (p : Program) (a word : ℕ) → IsProgramOf image p → a % 4 ≡ 0 →
    word < 2 ^ 32 →
    four_bytes (byte_at image) a ≡ Some (to_be_bytes w32 word) →
    MatchOption (p.instruction a) ((i : Instr) → ¬ IsWord i word) (λ i. IsWord i word)
instruction_at_word image p a word of = matches_word (byte_at image) a word (p.instruction a) (of.instructions a)
