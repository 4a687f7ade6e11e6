-- The line of one register more, and the end.
use Rattle.std.proofs.Common.{◌≡◌, ◌∙◌, ◌++◌, ℕ, List, ap, append_assoc, arith, sym}
use Rattle.m88_base.specs.RegisterSet.{registers_in}
use Rattle.m88_serving.specs.Served.{awaited_text, registers_below}
use Rattle.m88_serving.proofs.Texts.{registers_next}
use Rattle.m88_serving.proofs.text.push_registers.Goals as goal

pub loop-r-preserved : goal.loop-r-preserved
loop-r-preserved c =
    let line : List ℕ = awaited_text (registers_in c.args.set) c.args.values.now c.loop-r.r in
    c.in_ok-push_register.ensures ∙ ap (λ (t : List ℕ). t ++ line) c.loop-r.invariant
    ∙ append_assoc c.args.text.now.items (registers_below (registers_in c.args.set) c.args.values.now c.loop-r.r) line
    ∙ ap (λ (t : List ℕ). c.args.text.now.items ++ t) (sym (registers_next (registers_in c.args.set) c.args.values.now c.loop-r.r))

pub returns : goal.returns
returns c =
    let end : c.loop-r.r ≡ 32 = omega arith in
    c.loop-r.invariant ∙ ap (λ (r : ℕ). c.args.text.now.items ++ registers_below (registers_in c.args.set) c.args.values.now r) end
