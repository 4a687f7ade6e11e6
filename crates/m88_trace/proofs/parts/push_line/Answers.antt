-- The number is written in its room, and all else stands behind it.
use Rattle.std.proofs.Common.{List, ℕ, arith, ap, codes, ◌++◌, ◌∷◌, [], ◌≤◌, ◌<◌, ◌%◌, ◌/◌, ◌∙◌}
use Rattle.m88_base.specs.Hex.{hex8, hex_digit}
use Rattle.m88_base.specs.Lines.{line_end}
use Rattle.m88_base.specs.Reg.{number_of}
use Rattle.m88_trace.proofs.Heads.{line_is, one_digit, two_digits}
use Rattle.m88_trace.proofs.Writing.{ok_on}
use Rattle.m88_trace.specs.Lines.{head_text, written_text}
use Rattle.m88_trace.proofs.parts.push_line.Goals as goal

pub returns-in_default : goal.returns-in_default
unfolding written_text
returns-in_default c =
    let a = c.args in
    ok_on c.push_numbered.result c.push_numbered.ensures
    (λ e. e ∙ rw (c.in_default.is, c.word_digits.ensures, c.word_digits-2.ensures)
    (ap (λ (xs : List ℕ). a.text.now.items ++ xs) (line_is a.number a.at a.word [])))

pub returns-then-register-lt10 : goal.returns-then-register-lt10
unfolding written_text
returns-then-register-lt10 c =
    let a = c.args in
    let k = number_of c.in-Some.register in
    let small : k < 10 = omega arith in
    let text : List ℕ → List ℕ = λ ds. codes " r" ++ ds ++ codes " " ++ hex8 c.in-Some.value in
    ok_on c.push_numbered-then-register-lt10.result c.push_numbered-then-register-lt10.ensures
    (λ e. e
    ∙ rw (
      c.in-Some.is,
      c.word_digits.ensures,
      c.word_digits-2.ensures,
      c.word_digits-3.ensures,
      c.last_digit-digit.ensures,
      c.number-register.ensures.value,
    )
    (ap (λ (xs : List ℕ). a.text.now.items ++ xs)
    (line_is a.number a.at a.word (text (hex_digit (k % 16) ∷ []))
    ∙ ap (λ (ds : List ℕ). head_text a.number a.at a.word ++ text ds ++ line_end) (one_digit k small))))

pub returns : goal.returns
unfolding written_text
returns c =
    let a = c.args in
    let k = number_of c.in-Some.register in
    let large : 10 ≤ k = omega arith in
    let text : List ℕ → List ℕ = λ ds. codes " r" ++ ds ++ codes " " ++ hex8 c.in-Some.value in
    ok_on c.push_numbered-2.result c.push_numbered-2.ensures
    (λ e. e
    ∙ rw (
      c.in-Some.is,
      c.word_digits.ensures,
      c.word_digits-2.ensures,
      c.word_digits-3.ensures,
      c.last_digit-tens.ensures,
      c.last_digit-ones.ensures,
      c.number-register.ensures.value,
    )
    (ap (λ (xs : List ℕ). a.text.now.items ++ xs)
    (line_is a.number a.at a.word (text (hex_digit (k / 10 % 16) ∷ hex_digit (k % 10 % 16) ∷ []))
    ∙ ap (λ (ds : List ℕ). head_text a.number a.at a.word ++ text ds ++ line_end)
    (two_digits k large c.in-Some.register.in_range))))
