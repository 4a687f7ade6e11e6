-- One word more, one that is there already, and the end.
use Rattle.std.proofs.Common.{◌≡◌, ◌%◌, ℕ, get_or}
use Rattle.std.proofs.lemmas.List.{drop_more, take_more}
use Rattle.std.proofs.lemmas.List.Elements.{All-get_or}
use Rattle.m88_serving.proofs.Named.{named_all, named_none, named_one, named_twice}
use Rattle.m88_serving.proofs.naming.name_all.Goals as goal

pub loop-index-init : goal.loop-index-init
loop-index-init c = named_none c.args.words.now c.new-image.result c.new-image.ensures.empty

pub returns-then-not-branch : goal.returns-then-not-branch
returns-then-not-branch c =
    named_twice c.args.words.now c.loop-index.index (get_or c.args.words.now c.loop-index.index (0, 0)) c.loop-index.image
    (drop_more c.args.words.now c.loop-index.index (0, 0) c.loop-index-test.true) c.loop-index.invariant
    (rw c.if-not-branch.true at c.in_ok-name.ensures)

pub loop-index-preserved : goal.loop-index-preserved
loop-index-preserved c =
    named_one c.args.words.now c.loop-index.index (get_or c.args.words.now c.loop-index.index (0, 0)) c.loop-index.image c.name.new.image
    (All-get_or (λ (word : ℕ × ℕ). word.0 % 4 ≡ 0) c.args.words.now c.loop-index.index (0, 0) c.loop-index-test.true c.requires)
    (drop_more c.args.words.now c.loop-index.index (0, 0) c.loop-index-test.true)
    (take_more c.args.words.now c.loop-index.index (0, 0) c.loop-index-test.true) c.loop-index.invariant
    (rw c.if-not-branch.false at c.in_ok-name.ensures)

pub returns : goal.returns
returns c = named_all c.args.words.now c.loop-index.index c.loop-index.image c.loop-index-test.false c.loop-index.invariant
