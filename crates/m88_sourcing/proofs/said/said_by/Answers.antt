-- What one hint more says is added, until none is left.
use Rattle.std.proofs.Common.{◌≡◌, ◌∙◌, ◌++◌, ◌∷◌, List, [], ap, append-nil, sym}
use Rattle.std.specs.Prelude.{flat_map}
use Rattle.m88_base.specs.Words.{texts}
use Rattle.m88_sourcing.specs.Said.{entries_in, fixed_in}
use Rattle.m88_sourcing.specs.declared.hint.Hint.{Hint}
use Rattle.m88_sourcing.proofs.InTurn.{none_yet, nothing_first, one_more_read, one_more_said, shorter}
use Rattle.m88_sourcing.proofs.said.said_by.Goals as goal

pub loop-leading-init : goal.loop-leading-init
loop-leading-init c = ([], none_yet (texts c.args.words.now), c.new.ensures.items, c.new-2.ensures.items)

pub loop-leading-smaller : goal.loop-leading-smaller
loop-leading-smaller c =
    shorter c.loop-leading.rest.now c.in-Some.leading.rest.now c.in-Some.leading.hint c.in-Some.ensures.found

pub loop-leading-preserved : goal.loop-leading-preserved
loop-leading-preserved c =
    let read = c.loop-leading.invariant in (
      read.0 ++ c.in-Some.leading.hint ∷ [],
      one_more_read (texts c.args.words.now) (texts c.loop-leading.rest.now) read.0 c.in-Some.leading read.1 c.in-Some.ensures,
      c.in_ok-add_hint.ensures.entries ∙ one_more_said entries_in read.0 c.in-Some.leading.hint _ read.2,
      c.in_ok-add_hint.ensures.fixed ∙ one_more_said fixed_in read.0 c.in-Some.leading.hint _ read.3,
    )

pub returns : goal.returns
returns c = λ hints are.
    let read = c.loop-leading.invariant in
    let left = read.1.only hints are in
    let none = nothing_first (texts c.loop-leading.rest.now) left.0 c.in_default.ensures left.1 in
    let all : read.0 ≡ hints =
    sym (left.2 ∙ ap (λ (hs : List Hint). read.0 ++ hs) none.1 ∙ append-nil read.0) in
    let entries = read.2 ∙ ap (flat_map entries_in) all in
    let fixed = read.3 ∙ ap (flat_map fixed_in) all in
    (λ i. record { entries = entries i; fixed = fixed i })
