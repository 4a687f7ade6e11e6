-- The number is written in its room, and all else stands behind it.
use Rattle.std.proofs.Common.{List, ℕ, arith, ap, codes, ◌∷◌, [], ◌++◌, ◌≡◌, ◌%◌, ◌∙◌}
use Rattle.m88_base.specs.Hex.{hex8, hex_digit}
use Rattle.m88_trace.proofs.Heads.{begun_is}
use Rattle.m88_trace.proofs.Writing.{ok_on}
use Rattle.m88_trace.specs.Lines.{access_head, written_text}
use Rattle.m88_trace.proofs.parts.push_begun.Goals as goal

pub returns : goal.returns
unfolding access_head written_text
returns c =
    let a = c.args in
    let x = a.access.now in
    let kind = c.kind_of-kind.result in
    let small : x.en % 16 ≡ x.en = omega arith in
    ok_on c.push_numbered.result c.push_numbered.ensures
    (λ e. e
    ∙ rw (
      c.in-None.is,
      c.word_digits.ensures,
      c.word_digits-2.ensures,
      c.word_digits-3.ensures,
      c.last_digit-en.ensures,
      c.from.ensures,
      small,
      ← c.kind_of-kind.ensures,
    )
    (ap (λ (xs : List ℕ). a.text.now.items ++ xs)
    (begun_is a.number a.at a.word
    (32 ∷ kind ∷ 32 ∷ [] ++ hex8 x.addr ++ codes " " ++ (hex_digit x.en ∷ []) ++ codes " " ++ codes "????????"))))
