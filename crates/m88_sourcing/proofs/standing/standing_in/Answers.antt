-- The bytes are those of the word that stands there.
use Rattle.std.proofs.Common.{◌≡◌, ◌∙◌, ◌%◌, ◌≤◌, ℕ, List, Ok, Option, Some, IfSome, ap, arith, length, rules, subst, sym}
use Rattle.std.specs.Int.{to_be_bytes, w32}
use Rattle.std.specs.Result.{result_ok}
use Rattle.m88_base.specs.Image.{ProgramImage, byte_at}
use Rattle.m88_isa.specs.Machine.{four_bytes}
use Rattle.m88_isa.specs.Word.{IsWord}
use Rattle.m88_isa.specs.declared.instr.Instr.{Instr as Instruction}
use Rattle.m88_sourcing.specs.Code.{HoldsInstruction}
use Rattle.m88_sourcing.specs.Inside.Walks.{AreRest}
use Rattle.m88_sourcing.proofs.OneInstruction.{decoded, the_word, word_in_rest}
use Rattle.m88_sourcing.proofs.standing.standing_in.Goals as goal

pub returns-then-word-eq0-clause-only : goal.returns-then-word-eq0-clause-only
returns-then-word-eq0-clause-only c = λ image i rest holds.
    let w = the_word image c.args.at c.args.bytes.now i rest holds in
    let word : c.word_at-word.result ≡ w.word = c.word_at-word.ensures.only w.word w.low w.bytes_are in
    absurd (holds.1 (w.is.1 ∙ sym word ∙ c.if-word-eq0.true))

pub returns-clause-some : goal.returns-clause-some
returns-clause-some c =
    let low = c.if-bytes-lt4.false in
    let long : 4 ≤ length c.args.bytes.now = omega (arith, low) in
    let aligned : c.args.at % 4 ≡ 0 = search rules in
    let Stands : Instruction → Type 0 =
    λ i. (image : ProgramImage) → AreRest image c.args.at c.args.bytes.now → HoldsInstruction image c.args.at i in
    let stands : (i : Instruction) → IsWord i c.word_at-word.result → Stands i = λ i found image rest.
    let four : four_bytes (byte_at image) c.args.at ≡ Some (to_be_bytes w32 c.word_at-word.result) =
    word_in_rest image c.args.at c.args.bytes.now rest long
    ∙ ap (λ (xs : List ℕ). Some xs) (sym c.word_at-word.ensures.bytes) in
    ((aligned, (c.word_at-word.result, four, found)), λ zero. c.if-word-eq0.false (sym found.1 ∙ zero)) in
    subst (λ (o : Option Instruction). IfSome o Stands) (sym c.ok.ensures.value)
    (decoded c.decode.result c.word_at-word.result Stands stands c.decode.ensures.found)

pub returns-clause-only : goal.returns-clause-only
returns-clause-only c = λ image i rest holds.
    let w = the_word image c.args.at c.args.bytes.now i rest holds in
    let word : c.word_at-word.result ≡ w.word = c.word_at-word.ensures.only w.word w.low w.bytes_are in
    let found : c.decode.result ≡ Ok i = c.decode.ensures.only i (subst (IsWord i) (sym word) w.is) in
    c.ok.ensures.value ∙ ap result_ok found
