-- A source more is held, or it is the first that is refused.
use Rattle.std.proofs.Common.{[], ◌≤◌, arith, inr, length, rules, subst, sym, ◌≡◌, ℕ, ◌+◌, ◌<◌, List, ◌∷◌, ◌++◌, ap, drop, get_or, take, ◌∙◌}
use Rattle.std.proofs.lemmas.List.{drop_more, length-map, map-append, take-append-drop, take_more}
use Rattle.m88_asm.proofs.Laws.{hold_none, all_programs, hold_more}
use Rattle.m88_asm.specs.Held.{HoldEach, HoldsUnit}
use Rattle.m88_asm.specs.Several.{AreSources, HasRefusedSource, PlacedSource}
use Rattle.m88_asm.specs.Sources.{IsRefusedProgram}
use Rattle.m88_base.specs.Image.{ProgramImage}
use Rattle.m88_base.specs.Refusal.{Refusal}
use Rattle.m88_commands.specs.Inside.Placing.{all_placed, source_in}
use Rattle.m88_commands.specs.Sources.{most_sources}
use Rattle.m88_commands.specs.declared.commands.sources.PlacedSource.{PlacedSource as Kept}
use Rattle.m88_commands.proofs.commands.sources.images_of_sources.Goals as goal

-- the sources up to one that is held too
one_more_held : (kept : List Kept) (k : ℕ) (d : Kept) (images new : List ProgramImage) (image : ProgramImage) → k < length kept
    → HoldEach (all_placed (take k kept)) images → HoldsUnit (get_or kept k d).source.now image → new ≡ images ++ image ∷ []
    → HoldEach (all_placed (take (k + 1) kept)) new
one_more_held kept k d images new image below held holds items =
    let taken : all_placed (take (k + 1) kept) ≡ all_placed (take k kept) ++ source_in (get_or kept k d) ∷ [] =
    ap all_placed (take_more kept k d below) ∙ map-append source_in (take k kept) (get_or kept k d ∷ []) in
    subst (HoldEach (all_placed (take (k + 1) kept))) (sym items)
    (subst (λ (ss : List PlacedSource). HoldEach ss (images ++ image ∷ [])) (sym taken)
    (hold_more (all_placed (take k kept)) images (source_in (get_or kept k d)) image held holds))

-- the first source that is refused refuses the input
first_refused : (input : List ℕ) (kept : List Kept) (k : ℕ) (d : Kept) (images : List ProgramImage) (r : Refusal) → k < length kept
    → AreSources input (all_placed kept) → length kept ≤ most_sources → HoldEach (all_placed (take k kept)) images
    → IsRefusedProgram (get_or kept k d).lines (get_or kept k d).source.now r → HasRefusedSource most_sources input r
first_refused input kept k d images r below are few held refused =
    let parts : kept ≡ take k kept ++ get_or kept k d ∷ drop (k + 1) kept =
    sym (take-append-drop k kept) ∙ ap (λ l. take k kept ++ l) (drop_more kept k d below) in
    let all : all_placed kept ≡ all_placed (take k kept) ++ source_in (get_or kept k d) ∷ all_placed (drop (k + 1) kept) =
    ap all_placed parts ∙ map-append source_in (take k kept) (get_or kept k d ∷ drop (k + 1) kept) in
    record {
      before = all_placed (take k kept);
      refused = source_in (get_or kept k d);
      behind = all_placed (drop (k + 1) kept);
      are_sources = subst (AreSources input) all are;
      few = subst (λ (ss : List PlacedSource). length ss ≤ most_sources) all (subst (λ n. n ≤ most_sources) (sym (length-map kept source_in)) few);
      are_programs = all_programs (all_placed (take k kept)) images held;
      is_refused = refused;
    }

pub loop-placed-init : goal.loop-placed-init
loop-placed-init c = subst (HoldEach []) (sym c.new-images.ensures.items) hold_none

pub returns-in-Err-2 : goal.returns-in-Err-2
returns-in-Err-2 c =
    let kept = c.as_slice-placed-items.result.now in
    let same = sym c.as_slice-placed-items.ensures.value in
    inr (first_refused c.args.input.now kept c.loop-placed.placed-index _ c.loop-placed.images.items c.in-Err-2.refusal
    (omega (arith, c.loop-placed-test.true))
    (subst (λ sources. AreSources c.args.input.now (all_placed sources)) same c.in-Ok.ensures.sources)
    (subst (λ sources. length sources ≤ most_sources) same c.in-Ok.ensures.few) c.loop-placed.invariant
    (rw c.in-Err-2.is at c.in_ok-image.ensures))

pub loop-placed-preserved : goal.loop-placed-preserved
loop-placed-preserved c =
    one_more_held c.as_slice-placed-items.result.now c.loop-placed.placed-index _ c.loop-placed.images.items c.push.new.self.items
    c.in-Ok-2.image (omega (arith, c.loop-placed-test.true)) c.loop-placed.invariant
    (rw c.in-Ok-2.is at c.in_ok-image.ensures) (search rules)
