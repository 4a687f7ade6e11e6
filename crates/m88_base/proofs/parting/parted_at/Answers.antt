-- The input is parted at the first line that is the word.
use Rattle.std.proofs.Common.{◌≡◌, ◌≢◌, length, refl, rules, sym, ◌∙◌, true, arith}
use Rattle.std.proofs.lemmas.Bool.{eqb-true}
use Rattle.std.proofs.lemmas.Bool.Decides.{Decides-eqb}
use Rattle.std.proofs.lemmas.Slice.Eq.{slice_eq-Decides}
use Rattle.m88_base.proofs.PartedLines.{empty_of, none_passed, none_parts, one_parting, one_passed, parted_here, parted_not_unparted}
use Rattle.m88_base.proofs.parting.parted_at.Goals as goal

pub loop-word-init : goal.loop-word-init
loop-word-init c = record { passed = none_passed c.args.word.now c.args.input.now; few = omega arith }

pub returns-then-eq-clause-parted : goal.returns-then-eq-clause-parted
returns-then-eq-clause-parted c =
    let is : c.first_line.result.0.now ≡ c.args.word.now = search rules in
    parted_here c.args.word.now c.args.input.now c.loop-word.rest.now c.first_line.result.0.now c.first_line.result.1.now c.loop-word.lines
    c.loop-word.invariant.passed c.first_line.ensures.lines c.first_line.ensures.behind _ refl is

pub returns-then-eq-clause-only : goal.returns-then-eq-clause-only
returns-then-eq-clause-only c = λ before n behind is.
    one_parting c.args.word.now c.args.input.now _ _ _ (returns-then-eq-clause-parted c) before n behind is

pub returns-then-eq-clause-only_unparted : goal.returns-then-eq-clause-only_unparted
returns-then-eq-clause-only_unparted c = λ n none.
    parted_not_unparted c.args.word.now c.args.input.now _ _ _ (returns-then-eq-clause-parted c) n none

pub loop-word-preserved : goal.loop-word-preserved
loop-word-preserved c =
    let decides = slice_eq-Decides Decides-eqb c.first_line.result.0.now c.args.word.now c.eq.result c.eq.ensures in
    let other : c.first_line.result.0.now ≢ c.args.word.now = λ same. (let yes : c.eq.result ≡ true = decides.1 same in absurd cc) in
    record {
      passed = one_passed c.args.word.now c.args.input.now c.loop-word.rest.now c.first_line.result.0.now c.first_line.result.1.now c.loop-word.lines
          c.loop-word.invariant.passed c.first_line.ensures.lines c.first_line.ensures.behind (omega (arith, c.first_line.ensures.shorter)) other;
      few = omega (arith, c.loop-word.invariant.few, c.first_line.ensures.shorter);
    }

pub returns-clause-unparted : goal.returns-clause-unparted
returns-clause-unparted c =
    let is : c.is_empty.result ≡ true = search rules in
    none_parts c.args.word.now c.args.input.now c.loop-word.rest.now c.loop-word.lines c.loop-word.invariant.passed
    (empty_of c.loop-word.rest.now (eqb-true (length c.loop-word.rest.now) 0 (sym c.is_empty.ensures ∙ is)))

pub returns-clause-only : goal.returns-clause-only
returns-clause-only c = λ before n behind is.
    parted_not_unparted c.args.word.now c.args.input.now before n behind is c.loop-word.lines (returns-clause-unparted c)

pub returns-clause-only_unparted : goal.returns-clause-only_unparted
returns-clause-only_unparted c = λ n none. (returns-clause-unparted c).number ∙ sym none.number
