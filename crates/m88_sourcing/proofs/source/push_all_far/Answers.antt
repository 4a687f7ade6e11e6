-- One line more, and all.
use Rattle.std.proofs.Common.{◌≡◌, ◌∙◌, ◌+◌, ◌++◌, List, ℕ, ap, append-nil, map, subst, sym, take, take_all}
use Rattle.m88_base.specs.Lines.{text_of_lines}
use Rattle.m88_sourcing.specs.Source.{far_line}
use Rattle.m88_sourcing.proofs.Written.{far_more}
use Rattle.m88_sourcing.proofs.source.push_all_far.Goals as goal

pub loop-at-init : goal.loop-at-init
loop-at-init c = sym (append-nil c.args.text.now.items)

pub loop-at-preserved : goal.loop-at-preserved
loop-at-preserved c =
    let old : List ℕ = c.args.text.now.items in
    let k : ℕ = c.loop-at.at-index in
    subst (λ (xs : List ℕ). c.push_far.new.text.items ≡ old ++ text_of_lines (map far_line (take (k + 1) xs)))
    c.deref-at-items.ensures.value
    (far_more old c.loop-at.text.items c.push_far.new.text.items c.deref-at-items.result.now k c.loop-at-test.true
    (subst (λ (xs : List ℕ). c.loop-at.text.items ≡ old ++ text_of_lines (map far_line (take k xs)))
    (sym c.deref-at-items.ensures.value) c.loop-at.invariant)
    c.in_ok-push_far.ensures)

pub returns : goal.returns
returns c =
    c.loop-at.invariant
    ∙ ap (λ (xs : List ℕ). c.args.text.now.items ++ text_of_lines (map far_line xs))
    (subst (λ (xs : List ℕ). take c.loop-at.at-index xs ≡ xs) c.deref-at-items.ensures.value
    (take_all c.loop-at.at-index c.deref-at-items.result.now c.loop-at-test.false))
