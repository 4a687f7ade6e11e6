-- The word of the relocation is patched in its section.
use Rattle.std.proofs.Common.{◌≡◌, ◌∙◌, arith}
use Rattle.std.specs.Prelude.{Some}
use Rattle.std.proofs.lemmas.Grind.{common_steps}
use Rattle.m88_link.proofs.Carried.{known_one}
use Rattle.m88_link.proofs.placing.carry.Goals as goal

pub returns-in-Ok-clause-spots : goal.returns-in-Ok-clause-spots
returns-in-Ok-clause-spots c =
    let own : Some c.in-Ok-Some.target ≡ c.in-Ok-Some.field-0 = grind (arith, common_steps) in
    known_one c.args.globals.now c.args.placement.now c.args.reloc.now c.args.spots.now.items c.index_mut-spot.result.now c.patch.new.self c.in-Ok-Some.target
    (own ∙ c.in-Ok-Some.ensures.target) c.in-Ok.ensures c.requires.word c.index_mut-spot.ensures.value
