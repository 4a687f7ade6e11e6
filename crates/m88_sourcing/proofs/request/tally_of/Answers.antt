-- One hint more is read and counted, or there is none, or one too many.
use Rattle.std.proofs.Common.{◌≡◌, ◌<◌, ◌++◌, ◌∷◌, ℕ, List, [], arith, length, refl, subst, sym, ◌∙◌}
use Rattle.std.specs.Prelude.{string_bytes}
use Rattle.std.proofs.lemmas.Bool.Decides.{nat_tests}
use Rattle.std.proofs.lemmas.List.{length-map}
use Rattle.m88_base.specs.Words.{texts}
use Rattle.m88_sourcing.specs.Inside.Asked.{AreTallied}
use Rattle.m88_sourcing.specs.declared.hint.Hint.{Hint}
use Rattle.m88_sourcing.proofs.InTurn.{AreRead, all_only, all_read, no_text, none_few, none_yet, nothing_first, one_more_read, shorter, too_many}
use Rattle.m88_sourcing.proofs.request.tally_of.Goals as goal

pub loop-rest-init : goal.loop-rest-init
loop-rest-init c =
    ([], none_yet (texts c.args.words.now), record { count = refl; addresses = refl; starts = refl; few = none_few })

pub returns-in_err-leading-clause-only : goal.returns-in_err-leading-clause-only
returns-in_err-leading-clause-only c = λ hints say.
    let read = c.loop-rest.invariant in
    let left = read.1.only hints say.0 in
    let none = nothing_first (texts c.loop-rest.rest.now) left.0 c.in_err-leading.ensures left.1 in
    let some : 0 < length c.loop-rest.rest.now = grind (arith, nat_tests) in
    absurd (omega (arith, none.0, some, length-map c.loop-rest.rest.now string_bytes))

pub returns-in_err-leading-clause-one : goal.returns-in_err-leading-clause-one
returns-in_err-leading-clause-one c = λ a b say other.
    let left = c.loop-rest.invariant.1.only a say.0 in
    let none = nothing_first (texts c.loop-rest.rest.now) left.0 c.in_err-leading.ensures left.1 in
    let some : 0 < length c.loop-rest.rest.now = grind (arith, nat_tests) in
    absurd (omega (arith, none.0, some, length-map c.loop-rest.rest.now string_bytes))

pub returns-in_err-tally-clause-one : goal.returns-in_err-tally-clause-one
returns-in_err-tally-clause-one c = λ a b say other.
    let read = c.loop-rest.invariant in
    absurd
    (too_many (texts c.args.words.now) (texts c.loop-rest.rest.now) read.0 a c.in_ok-leading.leading read.1
    c.in_ok-leading.ensures (c.in_err-tally.ensures.only read.0 read.2) say.0 say.1)

pub returns-in_err-tally-clause-only : goal.returns-in_err-tally-clause-only
returns-in_err-tally-clause-only c = λ hints say.
    let read = c.loop-rest.invariant in
    absurd
    (too_many (texts c.args.words.now) (texts c.loop-rest.rest.now) read.0 hints c.in_ok-leading.leading read.1
    c.in_ok-leading.ensures (c.in_err-tally.ensures.only read.0 read.2) say.0 say.1)

pub loop-rest-smaller : goal.loop-rest-smaller
loop-rest-smaller c =
    shorter c.loop-rest.rest.now c.in_ok-leading.leading.rest.now c.in_ok-leading.leading.hint c.in_ok-leading.ensures.found

pub loop-rest-preserved : goal.loop-rest-preserved
loop-rest-preserved c =
    let read = c.loop-rest.invariant in (
      read.0 ++ c.in_ok-leading.leading.hint ∷ [],
      one_more_read (texts c.args.words.now) (texts c.loop-rest.rest.now) read.0 c.in_ok-leading.leading read.1
          c.in_ok-leading.ensures,
      c.in_ok-tally.ensures.found read.0 read.2,
    )

pub returns-clause-found : goal.returns-clause-found
returns-clause-found c =
    let read = c.loop-rest.invariant in
    let none : length c.loop-rest.rest.now ≡ 0 = grind (arith, nat_tests) in
    let all = subst (λ (ws : List (List ℕ)). AreRead (texts c.args.words.now) ws read.0) (no_text c.loop-rest.rest.now none) read.1 in
    (read.0, (all_read (texts c.args.words.now) read.0 all, read.2.few), read.2)

pub returns-clause-only : goal.returns-clause-only
returns-clause-only c = λ hints say.
    let read = c.loop-rest.invariant in
    let none : length c.loop-rest.rest.now ≡ 0 = grind (arith, nat_tests) in
    let all = subst (λ (ws : List (List ℕ)). AreRead (texts c.args.words.now) ws read.0) (no_text c.loop-rest.rest.now none) read.1 in
    subst (λ (hs : List Hint). AreTallied hs c.loop-rest.tally) (all_only (texts c.args.words.now) read.0 hints all say.0) read.2

pub returns-clause-one : goal.returns-clause-one
returns-clause-one c = λ a b say other.
    let read = c.loop-rest.invariant in
    let none : length c.loop-rest.rest.now ≡ 0 = grind (arith, nat_tests) in
    let all = subst (λ (ws : List (List ℕ)). AreRead (texts c.args.words.now) ws read.0) (no_text c.loop-rest.rest.now none) read.1 in
    sym (all_only (texts c.args.words.now) read.0 a all say.0) ∙ all_only (texts c.args.words.now) read.0 b all other.0
