-- The word that is fetched is that of the program's instruction, or of none.
use Rattle.std.specs.Prelude.{ℕ, List, Option, Some, None, Result, Ok, Err, MatchOption, IfOk, ◌≡◌, ◌<◌, ◌%◌, ◌^◌}
use Rattle.std.specs.Int.{to_be_bytes, w32}
use Rattle.std.specs.Result.{result_ok}
use Rattle.std.proofs.Common.{arith, refl, sym, ap, ◌∙◌}
use Rattle.m88_base.specs.Image.{ProgramImage, byte_at}
use Rattle.m88_isa.proofs.Laws.{instruction_at_word}
use Rattle.m88_isa.specs.Held.{fetched_instruction, instruction_at}
use Rattle.m88_isa.specs.ImageProgram.{IsProgramOf}
use Rattle.m88_isa.specs.Machine.{Program, four_bytes}
use Rattle.m88_isa.specs.Word.{IsWord}
use Rattle.m88_isa.specs.declared.instr.Instr.{Instr}
use Rattle.m88_session.proofs.monitor.tracing.instruction_at.Goals as goal

same_reading : {E : Type 0} (word : ℕ) (r : Result Instr E) (o : Option Instr) →
    MatchOption o ((i : Instr) → ¬ IsWord i word) (λ i. IsWord i word) → IfOk r (λ i. IsWord i word) →
    ((i : Instr) → IsWord i word → r ≡ Ok i) → result_ok r ≡ o
same_reading word (Ok i) None none found only = absurd (none i found)
same_reading word (Ok i) (Some j) is found only = let e = only j is in cc
same_reading word (Err e) None none found only = refl
same_reading word (Err e) (Some j) is found only = absurd (let no = only j is in cc)

read_there : {E : Type 0} (image : ProgramImage) (p : Program) (a word : ℕ) (r : Result Instr E) → IsProgramOf image p →
    a % 4 ≡ 0 → word < 2 ^ 32 → Some (to_be_bytes w32 word) ≡ four_bytes (byte_at image) a →
    IfOk r (λ i. IsWord i word) → ((i : Instr) → IsWord i word → r ≡ Ok i) → result_ok r ≡ instruction_at p a
read_there image p a word r of aligned small there found only =
    let bytes : four_bytes p.byte a ≡ Some (to_be_bytes w32 word) = ap (λ (byte : ℕ → Option ℕ). four_bytes byte a) of.bytes ∙ sym there in
    same_reading word r (p.instruction a) (instruction_at_word image p a word of aligned small (sym there)) found only
    ∙ sym (ap (λ (o : Option (List ℕ)). fetched_instruction o (p.instruction a)) bytes)

pub returns-clause-value : goal.returns-clause-value
returns-clause-value c = λ r m at.
    c.ok.ensures.value
    ∙ read_there c.args.board.now.memory.image r.program c.args.address c.in_ok-word.word c.decode.result at.image c.requires (omega arith)
    c.in_ok-word.ensures.value c.decode.ensures.found c.decode.ensures.only
