-- Eight digits write one word, and a word has eight digits.
use Rattle.std.proofs.Common.{◌≡◌, ◌∙◌, refl, ap, sym, true, false}
use Rattle.m88_base.specs.Hex.{hex8_of, is_hex8}
use Rattle.m88_base.proofs.Hexadecimal.{read_as_digits, text_of_word, hex8_of-hex8, is_hex8-hex8}
use Rattle.m88_base.proofs.hex.hex8_of.Goals as goal

clash : true ≡ false → ⊥
clash e = absurd cc

pub returns-then-is_hex8-clause-value : goal.returns-then-is_hex8-clause-value
returns-then-is_hex8-clause-value c =
    let is = sym c.is_hex8.ensures ∙ c.if-is_hex8.true in
    rw is (c.number_in.ensures.value ∙ read_as_digits c.args.text.now is)

pub returns-then-is_hex8-clause-found : goal.returns-then-is_hex8-clause-found
returns-then-is_hex8-clause-found c =
    let is = sym c.is_hex8.ensures ∙ c.if-is_hex8.true in
    rw (c.number_in.ensures.value ∙ read_as_digits c.args.text.now is) (text_of_word c.args.text.now is)

pub returns-then-is_hex8-clause-only : goal.returns-then-is_hex8-clause-only
returns-then-is_hex8-clause-only c = λ n small e.
    let is = sym c.is_hex8.ensures ∙ c.if-is_hex8.true in
    let read = c.number_in.ensures.value ∙ read_as_digits c.args.text.now is in
    let found : hex8_of c.args.text.now ≡ _ = rw is refl in
    read ∙ sym found ∙ ap hex8_of e ∙ hex8_of-hex8 n small

pub returns-else-is_hex8-clause-only : goal.returns-else-is_hex8-clause-only
returns-else-is_hex8-clause-only c = λ n small e.
    absurd (clash (sym (c.is_hex8.ensures ∙ ap is_hex8 e ∙ is_hex8-hex8 n) ∙ c.if-is_hex8.false))
