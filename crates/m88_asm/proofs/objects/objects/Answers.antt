-- One module more: its object, that it is sound, and the faults that are still to come.
use Rattle.std.proofs.Common.{sym, ap, ◌∙◌, ◌+◌, drop, drop_of_length-le, map, take_all, arith}
use Rattle.std.specs.Option.{option_or}
use Rattle.std.proofs.lemmas.Grind.{common_steps}
use Rattle.std.proofs.lemmas.List.Elements.{All-push}
use Rattle.m88_link.specs.Sound.{IsSound}
use Rattle.m88_asm.specs.Faults.{modules_fault}
use Rattle.m88_asm.specs.Objects.{object_of}
use Rattle.m88_asm.proofs.Resting.{next_of}
use Rattle.m88_asm.proofs.objects.objects.Goals as goal

pub loop-part-preserved : goal.loop-part-preserved
loop-part-preserved c =
    let ms = c.args.modules.now in
    let i = c.loop-part.part-index in
    let items = c.in_ok-push-in-Ok.ensures.items in
    let object = c.in-Ok.ensures.right.0 in
    let more = next_of ms i c.part-item.result c.part-item.result c.loop-part-test.true c.part-item.is in
    record {
      made = grind (arith, common_steps);
      sound = rw items (All-push IsSound _ _ c.loop-part.invariant.sound c.in-Ok.ensures.right.1);
      faults = ap (λ f. option_or f (modules_fault (drop (i + 1) ms))) (sym c.in-Ok.ensures.clean) ∙ ap modules_fault (sym more) ∙ c.loop-part.invariant.faults;
    }

pub returns : goal.returns
returns c =
    let ms = c.args.modules.now in
    let i = c.loop-part.part-index in
    record {
      right = (c.loop-part.invariant.made ∙ ap (map object_of) (take_all i ms c.loop-part-test.false), c.loop-part.invariant.sound);
      clean = sym c.loop-part.invariant.faults ∙ ap modules_fault (drop_of_length-le ms c.loop-part-test.false);
      fault = tt;
    }
