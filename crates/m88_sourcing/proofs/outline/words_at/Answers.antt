-- No word, one word more, and all.
use Rattle.std.proofs.Common.{◌∙◌, ℕ, Contains, IsTrue, List, arith, map, subst, sym, take_all, true≢false}
use Rattle.std.specs.Prelude.{◌↔◌}
use Rattle.std.specs.FinSet.{contains}
use Rattle.m88_isa.specs.Address.{word_address}
use Rattle.m88_sourcing.proofs.Outlining.{word_more}
use Rattle.m88_sourcing.proofs.outline.words_at.Goals as goal

pub loop-at-init : goal.loop-at-init
loop-at-init c = λ a. (
  λ there. absurd (true≢false (sym there ∙ c.in_ok-words.ensures a)),
  λ none. absurd (let low = none.1 in omega (arith, low)),
)

pub loop-at-preserved : goal.loop-at-preserved
loop-at-preserved c = λ a.
    word_more c.args.addresses.now c.loop-at.at-index a _ _ c.loop-at-test.true (c.loop-at.invariant a)
    (c.in_ok-insert.ensures.has a)

pub returns : goal.returns
returns c = λ a.
    subst (λ (xs : List ℕ). IsTrue (contains c.loop-at.words a) ↔ Contains (map word_address xs) a)
    (take_all c.loop-at.at-index c.args.addresses.now c.loop-at-test.false) (c.loop-at.invariant a)
