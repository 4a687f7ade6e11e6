-- The line of an instruction, or of a word that is none.
use Rattle.std.proofs.Common.{◌∙◌, ◌++◌, List, ℕ, ap, append_assoc}
use Rattle.std.specs.Prelude.{codes}
use Rattle.m88_base.specs.Lines.{line_end}
use Rattle.m88_disasm.specs.Text.{hexadecimal}
use Rattle.m88_disasm.proofs.Lines.{said_instruction, said_word}
use Rattle.m88_disasm.proofs.lister.push_word.Goals as goal

pub returns-in_ok-push_line-in-Ok-clause-line : goal.returns-in_ok-push_line-in-Ok-clause-line
returns-in_ok-push_line-in-Ok-clause-line c =
    said_instruction c.in-Ok.instr c.args.word _ _ c.in-Ok.ensures.found
    (c.in_ok-push_line-in-Ok.ensures
    ∙ ap (λ (xs : List ℕ). c.args.text.now.items ++ (xs ++ line_end))
    (c.as_bytes.ensures.value ∙ c.as_str.ensures.value ∙ c.text_of.ensures.value))

pub returns-in_ok-push_hexadecimal-in-Err-clause-line : goal.returns-in_ok-push_hexadecimal-in-Err-clause-line
returns-in_ok-push_hexadecimal-in-Err-clause-line c =
    said_word c.args.word _ _ (λ i h. let e = c.in-Err.ensures.only i h in cc)
    (c.in_ok-push_hexadecimal-in-Err.ensures
    ∙ ap (λ (xs : List ℕ). xs ++ (hexadecimal c.args.word ++ line_end)) c.in_ok-extend_from_slice-in-Err.ensures.items
    ∙ append_assoc c.args.text.now.items (codes ".word ") (hexadecimal c.args.word ++ line_end))
