-- The line of one register more, and the end.
use Rattle.std.proofs.Common.{◌≡◌, ◌∙◌, ◌++◌, ℕ, List, ap, append_assoc, arith, sym}
use Rattle.m88_entries.proofs.Lefts.{registers_next}
use Rattle.m88_entries.specs.Left.{is_shown}
use Rattle.m88_serving.specs.Served.{awaited_text, registers_below}
use Rattle.m88_entries.proofs.left.push_registers.Goals as goal

pub loop-r-preserved : goal.loop-r-preserved
loop-r-preserved c =
    let line : List ℕ = awaited_text (is_shown c.args.ssbr c.args.found.now c.args.left.now) c.args.left.now c.loop-r.r in
    c.in_ok-push_register.ensures ∙ ap (λ (t : List ℕ). t ++ line) c.loop-r.invariant
    ∙ append_assoc c.args.text.now.items (registers_below (is_shown c.args.ssbr c.args.found.now c.args.left.now) c.args.left.now c.loop-r.r) line
    ∙ ap (λ (t : List ℕ). c.args.text.now.items ++ t) (sym (registers_next (is_shown c.args.ssbr c.args.found.now c.args.left.now) c.args.left.now c.loop-r.r))

pub returns : goal.returns
returns c =
    let end : c.loop-r.r ≡ 32 = omega arith in
    c.loop-r.invariant ∙ ap (λ (r : ℕ). c.args.text.now.items ++ registers_below (is_shown c.args.ssbr c.args.found.now c.args.left.now) c.args.left.now r) end
