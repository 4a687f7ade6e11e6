-- One context after the other.
use Rattle.std.proofs.Common.{rules, List, [], ◌∷◌, ◌++◌, ◌≡◌, ◌∙◌, arith, length, refl, sym, subst, Some, None, slice_get, false}
use Rattle.std.proofs.lemmas.Option.{slice_get_read}
use Rattle.m88_base.specs.Image.{ProgramImage}
use Rattle.m88_isa.specs.ImageProgram.{IsProgramOf}
use Rattle.m88_isa.specs.Machine.{Program}
use Rattle.m88_tasks.proofs.Starting.{AreMade, a_group, are_tasks, image_same, made_first, made_next, some_start, starts, tasks_at}
use Rattle.m88_tasks.specs.Shared.{opening_shared}
use Rattle.m88_tasks.specs.Tasks.{ArePrograms}
use Rattle.m88_tasks.proofs.tasks.Tasks.new.Goals as goal
use Rattle.m88_event.specs.declared.letter.Letter.{Letter}

pub loop-q-init : goal.loop-q-init
loop-q-init c =
    let some = c.requires.some in
    let at : slice_get c.args.images.now 0 ≡ Some c.index-images-0.result =
    slice_get_read c.args.images.now (length c.args.images.now) 0 c.index-images-0.result refl (omega (arith, some)) c.index-images-0.is in
    let e : c.push.new.self.items ≡ None ∷ [] = search rules in
    made_first c.args.images.now c.args.absent.now c.args.limit c.index-images-0.result c.push.new.self.items at c.in_ok-board.ensures.is_image e

pub loop-q-preserved : goal.loop-q-preserved
loop-q-preserved c =
    let at : slice_get c.args.images.now c.loop-q.q ≡ Some c.index-images-q.result =
    slice_get_read c.args.images.now (length c.args.images.now) c.loop-q.q c.index-images-q.result refl (omega arith) c.index-images-q.is in
    let e : c.push-in-loop-q.new.self.items ≡ c.loop-q.contexts.items ++ (Some c.in_ok-context.context ∷ []) = search rules in
    made_next c.args.images.now c.args.absent.now c.args.limit c.loop-q.q c.index-images-q.result c.loop-q.contexts.items
    c.push-in-loop-q.new.self.items c.in_ok-context.context c.loop-q.invariant (omega arith) at c.in_ok-context.ensures.is_image
    c.in_ok-context.ensures.stands e

pub new-requires-2 : goal.new-requires-2
new-requires-2 c =
    let some = c.requires.some in
    let end = c.loop-q-test.false in
    let all : c.loop-q.q ≡ length c.args.images.now = omega (arith, some, end) in
    let made = subst (AreMade c.args.images.now c.args.absent.now c.args.limit c.loop-q.contexts.items) all c.loop-q.invariant in
    let first : slice_get c.args.images.now 0 ≡ Some c.index-images-0.result =
    slice_get_read c.args.images.now (length c.args.images.now) 0 c.index-images-0.result refl (omega (arith, some)) c.index-images-0.is in
    let at = λ (image : ProgramImage) (there : slice_get c.args.images.now 0 ≡ Some image) (p : Program) (schedule : List Letter)
    (of : IsProgramOf image p) (mode : p.mxm ≡ false). c.in_ok-board.ensures.at p schedule
    (subst (λ (i : ProgramImage). IsProgramOf i p) (image_same image c.index-images-0.result (sym there ∙ first)) of) mode in
    some_start c.args.images.now c.args.absent.now c.args.limit c.in_ok-board.board c.loop-q.contexts.items made c.requires.some c.requires.few
    c.requires.small at c.in_ok-board.ensures.named c.in_ok-board.ensures.begun

pub invariant_of-result : goal.invariant_of-result
invariant_of-result c =
    let some = c.requires.some in
    let end = c.loop-q-test.false in
    let all : c.loop-q.q ≡ length c.args.images.now = omega (arith, some, end) in
    let made = subst (AreMade c.args.images.now c.args.absent.now c.args.limit c.loop-q.contexts.items) all c.loop-q.invariant in
    let first : slice_get c.args.images.now 0 ≡ Some c.index-images-0.result =
    slice_get_read c.args.images.now (length c.args.images.now) 0 c.index-images-0.result refl (omega (arith, some)) c.index-images-0.is in
    let at = λ (image : ProgramImage) (there : slice_get c.args.images.now 0 ≡ Some image) (p : Program) (schedule : List Letter)
    (of : IsProgramOf image p) (mode : p.mxm ≡ false). c.in_ok-board.ensures.at p schedule
    (subst (λ (i : ProgramImage). IsProgramOf i p) (image_same image c.index-images-0.result (sym there ∙ first)) of) mode in
    let g = a_group c.args.images.now c.args.absent.now c.args.limit c.loop-q.contexts.items made in
    are_tasks g.0 c.new-2.result c.new-3.result.items
    (subst (ArePrograms g.0 (opening_shared g.0).moments (opening_shared g.0).current) (sym c.new-2.ensures)
    (starts c.args.images.now c.args.absent.now c.args.limit c.in_ok-board.board c.loop-q.contexts.items g.0 made c.requires.some c.requires.few
    c.requires.small at c.in_ok-board.ensures.named c.in_ok-board.ensures.begun g.1))
    c.new-3.ensures.items

pub returns : goal.returns
returns c =
    let some = c.requires.some in
    let end = c.loop-q-test.false in
    let all : c.loop-q.q ≡ length c.args.images.now = omega (arith, some, end) in
    let made = subst (AreMade c.args.images.now c.args.absent.now c.args.limit c.loop-q.contexts.items) all c.loop-q.invariant in
    let first : slice_get c.args.images.now 0 ≡ Some c.index-images-0.result =
    slice_get_read c.args.images.now (length c.args.images.now) 0 c.index-images-0.result refl (omega (arith, some)) c.index-images-0.is in
    let at = λ (image : ProgramImage) (there : slice_get c.args.images.now 0 ≡ Some image) (p : Program) (schedule : List Letter)
    (of : IsProgramOf image p) (mode : p.mxm ≡ false). c.in_ok-board.ensures.at p schedule
    (subst (λ (i : ProgramImage). IsProgramOf i p) (image_same image c.index-images-0.result (sym there ∙ first)) of) mode in
    record {
      at = λ g is. tasks_at g c.new-2.result c.new-3.result.items
          (subst (ArePrograms g (opening_shared g).moments (opening_shared g).current) (sym c.new-2.ensures)
          (starts c.args.images.now c.args.absent.now c.args.limit c.in_ok-board.board c.loop-q.contexts.items g made c.requires.some c.requires.few
          c.requires.small at c.in_ok-board.ensures.named c.in_ok-board.ensures.begun is))
          c.new-3.ensures.items;
      events = refl;
      group = a_group c.args.images.now c.args.absent.now c.args.limit c.loop-q.contexts.items made;
    }
