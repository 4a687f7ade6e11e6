-- One line more, that of a register, and the end.
use Rattle.std.proofs.Common.{◌≡◌, ◌∙◌, ◌+◌, Bool, arith, length, refl, subst, sym}
use Rattle.std.proofs.lemmas.Grind.{common_steps}
use Rattle.m88_base.proofs.Laws.{empty_of}
use Rattle.m88_entries.proofs.Splits.{Splits, splits_end, splits_first, splits_here, splits_more}
use Rattle.m88_entries.proofs.splitting.parts_of.Goals as goal

pub loop-line-init : goal.loop-line-init
loop-line-init c = record { splits = splits_first c.args.input.now; few = omega arith }

pub loop-line-preserved : goal.loop-line-preserved
loop-line-preserved c = record {
  splits = subst (λ (p : Bool). Splits c.args.input.now c.first_line.result.1.now p (c.loop-line.lines + 1)) (sym c.is_passed-passed.ensures)
      (splits_more c.args.input.now c.loop-line.rest.now c.first_line.result.0.now c.first_line.result.1.now c.loop-line.passed c.loop-line.lines
      c.loop-line.invariant.splits c.first_line.ensures.lines c.first_line.ensures.behind (omega (arith, c.first_line.ensures.shorter))
      (sym c.is_register.ensures ∙ c.if-is_register.false));
  few = omega (arith, c.first_line.ensures.shorter, c.loop-line.invariant.few);
}

pub returns-then-is_register : goal.returns-then-is_register
returns-then-is_register c =
    let h = splits_here c.args.input.now c.loop-line.rest.now c.first_line.result.0.now c.first_line.result.1.now _ c.loop-line.passed
    c.loop-line.lines c.loop-line.invariant.splits c.first_line.ensures.lines (sym c.is_register.ensures ∙ c.if-is_register.true) refl in
    record { front = h.faults; rest = h.registers; lines = h.number; few = c.loop-line.invariant.few }

pub returns : goal.returns
returns c =
    let none : length c.loop-line.rest.now ≡ 0 = grind (arith, common_steps) in
    let h = splits_end c.args.input.now c.loop-line.rest.now c.loop-line.passed c.loop-line.lines c.loop-line.invariant.splits
    (empty_of c.loop-line.rest.now none) in
    record { front = h.faults; rest = h.registers; lines = h.number; few = c.loop-line.invariant.few }
