-- One register more, one that was told before, and the end.
use Rattle.std.proofs.Common.{◌≡◌, ◌≢◌, ◌<◌, ◌∙◌, ℕ, arith, get_or, length, refl, sym}
use Rattle.std.specs.Prelude.{replicate}
use Rattle.std.proofs.lemmas.List.{drop_more, get_or-set_other, take_more}
use Rattle.std.proofs.lemmas.List.Elements.{All-get_or}
use Rattle.m88_entries.proofs.RegisterLines.{all_given, given_twice, none_given, one_given}
use Rattle.m88_entries.proofs.registers.given_by.Goals as goal

pub loop-index-init : goal.loop-index-init
loop-index-init c = record { given = none_given c.args.words.now c.args.first (replicate 32 0); zero = refl }

pub returns-then-is_named-clause-twice : goal.returns-then-is_named-clause-twice
returns-then-is_named-clause-twice c =
    given_twice c.args.words.now c.args.first c.loop-index.index (get_or c.args.words.now c.loop-index.index (0, 0)) (replicate 32 0)
    c.loop-index.given (drop_more c.args.words.now c.loop-index.index (0, 0) c.loop-index-test.true) c.loop-index.invariant.given
    (sym c.is_named.ensures ∙ c.if-is_named.true)

pub loop-index-preserved : goal.loop-index-preserved
loop-index-preserved c =
    let word : ℕ × ℕ = get_or c.args.words.now c.loop-index.index (0, 0) in
    let within = All-get_or (λ (word : ℕ × ℕ). (0 < word.0) × (word.0 < 32)) c.args.words.now c.loop-index.index (0, 0) c.loop-index-test.true
    c.requires.each in
    let apart : 0 ≢ word.0 = omega (arith, within.0) in
    record {
      given = one_given c.args.words.now c.args.first c.loop-index.index word (replicate 32 0) c.loop-index.given
          (drop_more c.args.words.now c.loop-index.index (0, 0) c.loop-index-test.true)
          (take_more c.args.words.now c.loop-index.index (0, 0) c.loop-index-test.true)
          c.loop-index.invariant.given (sym c.is_named.ensures ∙ c.if-is_named.false);
      zero = get_or-set_other c.loop-index.given word.0 0 word.1 0 apart ∙ c.loop-index.invariant.zero;
    }

pub returns-clause-given : goal.returns-clause-given
returns-clause-given c =
    let size : length c.args.words.now ≡ c.loop-index.index = omega arith in
    (all_given c.args.words.now c.args.first c.loop-index.index (replicate 32 0) c.loop-index.given size c.loop-index.invariant.given).0

pub returns-clause-once : goal.returns-clause-once
returns-clause-once c =
    let size : length c.args.words.now ≡ c.loop-index.index = omega arith in
    (all_given c.args.words.now c.args.first c.loop-index.index (replicate 32 0) c.loop-index.given size c.loop-index.invariant.given).1
