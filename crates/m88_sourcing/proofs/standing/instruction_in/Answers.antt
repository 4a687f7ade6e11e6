-- The bytes are those of the word that stands there.
use Rattle.std.proofs.Common.{◌≡◌, ◌∙◌, Ok, Option, IfSome, ap, subst, sym}
use Rattle.std.specs.Result.{result_ok}
use Rattle.m88_isa.specs.Instr.{IsValid}
use Rattle.m88_isa.specs.Word.{IsWord}
use Rattle.m88_isa.specs.declared.instr.Instr.{Instr as Instruction}
use Rattle.m88_sourcing.proofs.OneInstruction.{decoded, word_there}
use Rattle.m88_sourcing.proofs.standing.instruction_in.Goals as goal

pub returns-clause-only : goal.returns-clause-only
returns-clause-only c = λ image at i there holds.
    let w = word_there image at c.args.bytes.now i c.requires there holds in
    let word : c.word_at.result ≡ w.word = c.word_at.ensures.only w.word w.low w.bytes_are in
    let found : c.decode.result ≡ Ok i = c.decode.ensures.only i (subst (IsWord i) (sym word) w.is) in
    c.ok.ensures.value ∙ ap result_ok found

pub returns-clause-valid : goal.returns-clause-valid
returns-clause-valid c =
    subst (λ (o : Option Instruction). IfSome o IsValid) (sym c.ok.ensures.value)
    (decoded c.decode.result c.word_at.result IsValid (λ i found. found.0) c.decode.ensures.found)
