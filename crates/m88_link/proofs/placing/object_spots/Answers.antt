-- The word of each relocation lies in its section.
use Rattle.std.proofs.Common.{◌∙◌, map, sym, ap, subst}
use Rattle.std.specs.Prelude.{All}
use Rattle.m88_link.specs.Inside.Carried.{HasWord, unpatched}
use Rattle.m88_link.proofs.Carried.{has_words}
use Rattle.m88_link.proofs.placing.object_spots.Goals as goal

pub carry_out-requires-clause-words : goal.carry_out-requires-clause-words
carry_out-requires-clause-words c =
    let s = c.args.placement.now in
    let items = c.in_ok-spots.ensures ∙ ap (λ l. map (unpatched s) l) c.sections.ensures.value in
    subst (λ l. All (HasWord l) c.relocs.result.now) (sym items)
    (subst (λ rs. All (HasWord (map (unpatched s) s.part.sections)) rs) (sym c.relocs.ensures.value)
    (has_words s s.part.sections s.part.relocs c.relocs.ensures.sound.relocs))
