-- The byte, 0x and the digits.
use Rattle.std.proofs.Common.{◌≡◌, ◌∷◌, ◌++◌, ℕ, List, [], ap, append_assoc, ◌∙◌}
use Rattle.std.specs.Prelude.{codes}
use Rattle.std.proofs.lemmas.Result.{on_ok_weaker}
use Rattle.m88_base.specs.Hex.{hex8}
use Rattle.m88_sourcing.proofs.lines.push_word.Goals as goal

appended : (t0 t1 t2 t3 digits : List ℕ) (before : ℕ) → t1 ≡ t0 ++ before ∷ [] → t2 ≡ t1 ++ codes "0x" → t3 ≡ t2 ++ digits
    → t3 ≡ t0 ++ before ∷ (codes "0x" ++ digits)
appended t0 t1 t2 t3 digits before first second third =
    third
    ∙ ap (λ (xs : List ℕ). xs ++ digits) (second ∙ ap (λ (xs : List ℕ). xs ++ codes "0x") first)
    ∙ append_assoc (t0 ++ before ∷ []) (codes "0x") digits
    ∙ append_assoc t0 (before ∷ []) (codes "0x" ++ digits)

pub returns : goal.returns
returns c =
    on_ok_weaker c.push_hex8.result
    (λ e. appended c.args.text.now.items c.push.new.self.items c.extend_from_slice.new.self.items c.push_hex8.new.text.items _
    c.args.before c.in_ok-push.ensures.items c.in_ok-extend_from_slice.ensures.items
    (e ∙ ap (λ (n : ℕ). c.extend_from_slice.new.self.items ++ hex8 n) c.word_at.ensures.value))
    c.push_hex8.ensures
