-- One module more, where its object stands.
use Rattle.std.proofs.Common.{◌≡◌, ◌∙◌, ◌+◌, ◌<◌, ◌≤◌, ◌++◌, [], ◌∷◌, List, append_assoc, ap, arith, drop, drop_of_length-le, get_or, length, sym}
use Rattle.std.proofs.lemmas.List.{append-nil}
use Rattle.m88_link.specs.Bases.{Placement, section_size, stood}
use Rattle.m88_link.specs.declared.object.Object.{Object}
use Rattle.m88_parse.specs.declared.unit.Module.{Module}
use Rattle.m88_asm.specs.Objects.{objects_of}
use Rattle.m88_asm.specs.Units.{based}
use Rattle.m88_listing.specs.Inside.Slots.{standing}
use Rattle.m88_listing.proofs.Standings.{as_many, as_many_objects, object_here, stands_more}
use Rattle.m88_listing.proofs.standing.standings.Goals.{After-index-objects-index}
use Rattle.m88_listing.proofs.standing.standings.Goals as goal

pub bounds-objects-index : goal.bounds-objects-index
bounds-objects-index c =
    omega (arith, c.loop-index-test.true, ap length c.requires ∙ as_many_objects c.args.unit.now, ap length c.as_slice-parts.ensures)

low : (c : After-index-objects-index) → c.loop-index.index < length c.args.unit.now.modules
low c = omega (arith, c.loop-index-test.true, ap length c.as_slice-parts.ensures)

here : (c : After-index-objects-index) → c.index-parts-index.result ≡ get_or c.args.unit.now.modules c.loop-index.index c.index-parts-index.result
here c = c.index-parts-index.is ∙ ap (λ (ms : List Module). get_or ms c.loop-index.index c.index-parts-index.result) c.as_slice-parts.ensures

there : (c : After-index-objects-index)
    → c.index-objects-index.result ≡ get_or (stood section_size (objects_of c.args.unit.now)) c.loop-index.index c.index-objects-index.result
there c = c.index-objects-index.is ∙ ap (λ (os : List (Placement Object)). get_or os c.loop-index.index c.index-objects-index.result) c.requires

pub invariant_of-push : goal.invariant_of-push
invariant_of-push c =
    let k = (goal.at.invariant_of-push c).After-index-objects-index in
    object_here c.args.unit.now c.loop-index.index c.index-parts-index.result c.index-objects-index.result (low k) (here k) (there k)

pub loop-index-preserved : goal.loop-index-preserved
loop-index-preserved c =
    let k = (goal.at.loop-index-preserved c).After-index-objects-index in
    let u = c.args.unit.now in
    let m = c.index-parts-index.result in
    let o = c.index-objects-index.result in
    let rest = drop (c.loop-index.index + 1) (based u) in
    ap (λ (xs : List (Placement Module)). xs ++ rest) c.in_ok-push.ensures.items
    ∙ append_assoc c.loop-index.standings.items (standing m o ∷ []) rest
    ∙ ap (λ (xs : List (Placement Module)). c.loop-index.standings.items ++ xs) (stands_more u c.loop-index.index m o (low k) (here k) (there k))
    ∙ c.loop-index.invariant

pub returns : goal.returns
returns c =
    let u = c.args.unit.now in
    let all : length (based u) ≤ c.loop-index.index =
    omega (arith, c.loop-index-test.false, ap length c.as_slice-parts.ensures, as_many u) in
    sym (append-nil c.loop-index.standings.items)
    ∙ ap (λ (xs : List (Placement Module)). c.loop-index.standings.items ++ xs) (sym (drop_of_length-le (based u) all)) ∙ c.loop-index.invariant
