-- A number below 32 has one digit or two.
use Rattle.std.proofs.Common.{ℕ, List, arith, ap, ap₂, append_assoc, sym, ◌++◌, ◌∙◌, [], ◌∷◌, decimal}
use Rattle.m88_trace.proofs.Heads.{one_digit, two_digits}
use Rattle.m88_trace.proofs.Writing.{ok_items, ok_on}
use Rattle.m88_trace.proofs.parts.push_register.Goals as goal

pub returns-then-number-lt10 : goal.returns-then-number-lt10
returns-then-number-lt10 c =
    let n = c.args.number in
    let text = c.args.text.now.items in
    ok_on c.extend_from_slice.result (ok_items c.extend_from_slice.result _ _ _ c.extend_from_slice.ensures.items)
    (λ e. e
    ∙ ap (λ (xs : List ℕ). text ++ (32 ∷ 114 ∷ xs))
    (ap (λ (d : ℕ). d ∷ []) c.last_digit.ensures ∙ one_digit n (omega arith))
    ∙ sym (append_assoc text (32 ∷ 114 ∷ []) (decimal n)))

pub returns : goal.returns
returns c =
    let n = c.args.number in
    let text = c.args.text.now.items in
    ok_on c.extend_from_slice-2.result
    (ok_items c.extend_from_slice-2.result _ _ _ c.extend_from_slice-2.ensures.items)
    (λ e. e
    ∙ ap (λ (xs : List ℕ). text ++ (32 ∷ 114 ∷ xs))
    (ap₂ (λ (d u : ℕ). d ∷ u ∷ []) c.last_digit-2.ensures c.last_digit-3.ensures
    ∙ two_digits n (omega arith) (omega arith))
    ∙ sym (append_assoc text (32 ∷ 114 ∷ []) (decimal n)))
