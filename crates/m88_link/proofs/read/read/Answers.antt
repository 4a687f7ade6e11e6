-- The objects whose text it is are gone through, whose lines are no more than the text has bytes.
use Rattle.std.proofs.Common.{◌<◌, ◌^◌, List, inr, sym, subst, arith}
use Rattle.std.proofs.lemmas.Result.{err_from_is_err_and}
use Rattle.std.specs.Prelude.{All}
use Rattle.m88_link.specs.declared.object.Object.{Object}
use Rattle.m88_link.specs.Inside.Walked.{AreSoundParts, IsFoundObject, objects_count}
use Rattle.m88_link.proofs.Told.{few_enough, form_told, range_told, small_line, sound_told}
use Rattle.m88_link.proofs.Walks.{walked_sound, walked_unsound}
use Rattle.m88_link.proofs.read.read.Goals as goal

pub returns-in_err-objects : goal.returns-in_err-objects
returns-in_err-objects c =
    let p = err_from_is_err_and c.from_residual.result c.from_residual.ensures.1 in
    rw (p.1, p.2) (form_told c.args.text.now c.in_err-objects.field-0.0 c.in_err-objects.ensures)

pub walk_objects-requires : goal.walk_objects-requires
walk_objects-requires c =
    subst (λ (l : List Object). objects_count l < 2 ^ 31) (sym c.as_slice.ensures.value)
    (few_enough c.args.text.now c.in_ok-objects.objects.items c.in_ok-objects.ensures c.requires)

pub overflow_cast-result : goal.overflow_cast-result
overflow_cast-result c =
    let found = walked_unsound c.in_ok-walk_objects.field-0 _ _ c.in-Unsound.lines c.in-Unsound.is c.in_ok-walk_objects.ensures in
    let f : IsFoundObject c.in_ok-objects.objects.items c.in-Unsound.lines = subst (λ (l : List Object). IsFoundObject l c.in-Unsound.lines) c.as_slice.ensures.value found in
    let small = small_line c.args.text.now c.in_ok-objects.objects.items c.in_ok-objects.ensures c.requires c.in-Unsound.lines f in
    omega (arith, small)

pub overflow_add-result : goal.overflow_add-result
overflow_add-result c =
    let found = walked_unsound c.in_ok-walk_objects.field-0 _ _ c.in-Unsound.lines c.in-Unsound.is c.in_ok-walk_objects.ensures in
    let f : IsFoundObject c.in_ok-objects.objects.items c.in-Unsound.lines = subst (λ (l : List Object). IsFoundObject l c.in-Unsound.lines) c.as_slice.ensures.value found in
    let small = small_line c.args.text.now c.in_ok-objects.objects.items c.in_ok-objects.ensures c.requires c.in-Unsound.lines f in
    omega (arith, small)

pub returns-in-Sound : goal.returns-in-Sound
returns-in-Sound c =
    let found = walked_sound c.in_ok-walk_objects.field-0 _ _ c.in-Sound.field-0 c.in-Sound.is c.in_ok-walk_objects.ensures in
    sound_told c.args.text.now c.in_ok-objects.objects.items c.in_ok-objects.ensures (subst (λ (l : List Object). All AreSoundParts l) c.as_slice.ensures.value found.0)

pub returns-in-Unsound : goal.returns-in-Unsound
returns-in-Unsound c =
    let found = walked_unsound c.in_ok-walk_objects.field-0 _ _ c.in-Unsound.lines c.in-Unsound.is c.in_ok-walk_objects.ensures in
    inr (range_told c.args.text.now c.in_ok-objects.objects.items c.in_ok-objects.ensures c.in-Unsound.lines
    (subst (λ (l : List Object). IsFoundObject l c.in-Unsound.lines) c.as_slice.ensures.value found))
