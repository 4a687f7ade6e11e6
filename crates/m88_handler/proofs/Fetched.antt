-- The instruction at an address of an image is that of its word.
use Rattle.std.specs.Prelude.{ℕ, List, Option, Some, None, Ok, Err, MatchOption, ◌≡◌, ◌%◌, ◌^◌, ◌<◌}
use Rattle.std.specs.Int.{to_be_bytes, w32}
use Rattle.std.proofs.Common.{refl, sym, ap, subst, ◌∙◌}
use Rattle.m88_base.specs.Image.{ProgramImage, byte_at}
use Rattle.m88_codec.proofs.Laws.{one_reading}
use Rattle.m88_isa.proofs.Laws.{instruction_at_word, word_small}
use Rattle.m88_isa.specs.ImageProgram.{IsProgramOf}
use Rattle.m88_isa.specs.Machine.{Program, four_bytes}
use Rattle.m88_isa.specs.Vector.{instruction_access, unimplemented}
use Rattle.m88_isa.specs.Word.{IsWord}
use Rattle.m88_isa.specs.declared.instr.Instr.{Instr}
use Rattle.m88_handler.specs.Machine.{fetched_at, fetched_of}
use Rattle.m88_mem.specs.Lines.{IsLine}
use Rattle.m88_mem.specs.declared.lines.Line.{Line}

-- the bytes of a program are those of its image
bytes_of : (p : Program) (image : ProgramImage) (a : ℕ) → IsProgramOf image p → four_bytes p.byte a ≡ four_bytes (byte_at image) a
bytes_of p image a of = ap (λ (byte : ℕ → Option ℕ). four_bytes byte a) of.bytes

same_there : (o : Option Instr) (i : Instr) (word : ℕ) → MatchOption o ((j : Instr) → ¬ IsWord j word) (λ j. IsWord j word) → IsWord i word
    → o ≡ Some i
same_there None i word none is = absurd (none i is)
same_there (Some j) i word found is = ap Some (one_reading word j i found is)

none_there : (o : Option Instr) (word : ℕ) → MatchOption o ((j : Instr) → ¬ IsWord j word) (λ j. IsWord j word)
    → ((j : Instr) → ¬ IsWord j word) → o ≡ None
none_there None word found none = refl
none_there (Some j) word found none = absurd (none j found)

pub found_there : (p : Program) (image : ProgramImage) (a word : ℕ) (i : Instr) → IsProgramOf image p → a % 4 ≡ 0
    → four_bytes (byte_at image) a ≡ Some (to_be_bytes w32 word) → IsWord i word → Ok i ≡ fetched_at p a
found_there p image a word i of aligned bytes is =
    let small : word < 2 ^ 32 = subst (λ w. w < 2 ^ 32) is.1 (word_small i is.0) in
    sym (ap (λ (o : Option Instr). fetched_of (four_bytes p.byte a) o)
    (same_there (p.instruction a) i word (instruction_at_word image p a word of aligned small bytes) is)
    ∙ ap (λ (w : Option (List ℕ)). fetched_of w (Some i)) (bytes_of p image a of ∙ bytes))

pub no_instruction : (p : Program) (image : ProgramImage) (a word : ℕ) → IsProgramOf image p → a % 4 ≡ 0 → word < 2 ^ 32
    → four_bytes (byte_at image) a ≡ Some (to_be_bytes w32 word) → ((j : Instr) → ¬ IsWord j word) → Err unimplemented ≡ fetched_at p a
no_instruction p image a word of aligned small bytes none =
    sym (ap (λ (o : Option Instr). fetched_of (four_bytes p.byte a) o)
    (none_there (p.instruction a) word (instruction_at_word image p a word of aligned small bytes) none)
    ∙ ap (λ (w : Option (List ℕ)). fetched_of w None) (bytes_of p image a of ∙ bytes))

pub no_word : (p : Program) (image : ProgramImage) (a : ℕ) → IsProgramOf image p → four_bytes (byte_at image) a ≡ None
    → Err instruction_access ≡ fetched_at p a
no_word p image a of none =
    sym (ap (λ (w : Option (List ℕ)). fetched_of w (p.instruction a)) (bytes_of p image a of ∙ none))

pub found_line : (p : Program) (image : ProgramImage) (a : ℕ) (line : Line) → IsProgramOf image p → line.addr ≡ a
    → IsLine image line → Ok line.instr ≡ fetched_at p a
found_line p image a line of here is =
    subst (λ (b : ℕ). Ok line.instr ≡ fetched_at p b) here
    (found_there p image line.addr line.word line.instr of is.aligned is.word is.instruction)
