-- The label, the mark of the start and the text of the word.
use Rattle.std.proofs.Common.{◌≡◌, ◌∙◌, ℕ, Some, subst, sym}
use Rattle.std.proofs.lemmas.Option.{none-some, same_Some}
use Rattle.std.proofs.lemmas.Result.{on_ok_weaker}
use Rattle.m88_base.specs.Image.{ProgramImage}
use Rattle.m88_isa.specs.declared.instr.Instr.{Instr as Instruction}
use Rattle.m88_sourcing.specs.Code.{HoldsInstruction}
use Rattle.m88_sourcing.proofs.Cutting.{lines_where, word_front}
use Rattle.m88_sourcing.proofs.pieces.push_code_word.Goals as goal

held : (image : ProgramImage) (at : ℕ) (i k : Instruction) → HoldsInstruction image at i → Some k ≡ Some i
    → HoldsInstruction image at k
held image at i k holds same = subst (HoldsInstruction image at) (sym (same_Some k i same)) holds

pub unreachable-requires : goal.unreachable-requires
unreachable-requires c =
    none-some c.requires.stands.0
    (sym c.in-None.is ∙ c.instruction_in.ensures.only c.args.image.now c.args.at c.requires.stands.0 c.requires.there
    c.requires.stands.1)

pub returns : goal.returns
returns c =
    on_ok_weaker c.push_instruction.result
    (λ text said n is.
    word_front c.args.image.now said c.args.at n c.in-Some.instr c.args.text.now.items c.push_label_at.new.text.items
    c.push_start_at.new.text.items c.push_instruction.new.text.items (held c.args.image.now c.args.at c.requires.stands.0 c.in-Some.instr c.requires.stands.1
    (c.in-Some.ensures.only c.args.image.now c.args.at c.requires.stands.0 c.requires.there c.requires.stands.1))
    (lines_where _ _ _ _ _
    (λ h. (is c.args.at).0 (sym c.contains.ensures ∙ h), λ h. c.contains.ensures ∙ (is c.args.at).1 h)
    c.in_ok-push_label_at.ensures)
    (lines_where _ _ _ _ _ (λ e. e ∙ c.start.ensures, λ e. e ∙ sym c.start.ensures) c.in_ok-push_start_at.ensures)
    text)
    c.push_instruction.ensures
