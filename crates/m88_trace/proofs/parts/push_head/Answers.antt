-- The number is written in its room, and all else stands behind it.
use Rattle.std.proofs.Common.{List, ℕ, ap, ◌++◌, ◌∙◌}
use Rattle.m88_trace.proofs.Heads.{head_is}
use Rattle.m88_trace.proofs.Writing.{ok_on}
use Rattle.m88_trace.proofs.parts.push_head.Goals as goal

pub returns : goal.returns
returns c =
    let a = c.args in
    ok_on c.push_numbered.result c.push_numbered.ensures
    (λ e. e ∙ rw (c.word_digits.ensures, c.word_digits-2.ensures)
    (ap (λ (xs : List ℕ). a.text.now.items ++ xs) (head_is a.number a.at a.word)))
