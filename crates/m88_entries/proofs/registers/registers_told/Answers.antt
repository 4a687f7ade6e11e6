-- One line more that tells a register, one that doesn't, and the end.
use Rattle.std.proofs.Common.{◌≡◌, ◌∙◌, ◌+◌, ◌<◌, ℕ, All, List, ap, arith, length, subst, sym}
use Rattle.std.proofs.lemmas.Grind.{common_steps}
use Rattle.std.proofs.lemmas.List.Elements.{All-push}
use Rattle.m88_base.specs.Lines.{lines_of}
use Rattle.m88_entries.specs.Inside.Parts.{words_behind}
use Rattle.m88_entries.specs.Told.{registers_told}
use Rattle.m88_entries.proofs.RegisterLines.{words_last, words_more, words_wrong}
use Rattle.m88_entries.proofs.registers.registers_told.Goals as goal

pub loop-rest-preserved : goal.loop-rest-preserved
loop-rest-preserved c = record {
  same =
      ap (λ (ws : List (ℕ × ℕ)). words_behind ws (registers_told (c.loop-rest.number + 1) (lines_of c.first_line.result.1.now))) c.in-Ok.ensures.items
      ∙ words_more c.loop-rest.words.items c.loop-rest.number c.first_line.result.0.now c.loop-rest.rest.now c.first_line.result.1.now c.in-Some.word
      c.first_line.ensures.lines (sym c.in-Some.ensures.value)
      ∙ c.loop-rest.invariant.same;
  each = subst (All (λ (word : ℕ × ℕ). (0 < word.0) × (word.0 < 32))) (sym c.in-Ok.ensures.items)
      (All-push (λ (word : ℕ × ℕ). (0 < word.0) × (word.0 < 32)) c.loop-rest.words.items c.in-Some.word c.loop-rest.invariant.each
      c.in-Some.ensures.register);
  few = omega (arith, c.first_line.ensures.shorter, c.loop-rest.invariant.few);
}

pub returns-in_default-clause-form : goal.returns-in_default-clause-form
returns-in_default-clause-form c =
    sym c.loop-rest.invariant.same
    ∙ words_wrong c.loop-rest.words.items c.loop-rest.number c.first_line.result.0.now c.loop-rest.rest.now c.first_line.result.1.now
    c.first_line.ensures.lines (sym c.register_told.ensures.value ∙ c.in_default.is)

pub returns-clause-ok : goal.returns-clause-ok
returns-clause-ok c =
    let none : length c.loop-rest.rest.now ≡ 0 = grind (arith, common_steps) in
    sym c.loop-rest.invariant.same ∙ words_last c.loop-rest.words.items c.loop-rest.number c.loop-rest.rest.now (omega (arith, none))
