-- Stages as the accesses whose words they have.
use Rattle.std.proofs.Common.{◌≡◌, ◌<◌, ◌++◌, List, [], ◌∷◌, length, length-append, ap, sym, ◌∙◌, subst, arith}
use Rattle.std.proofs.lemmas.List.{length-map, map-append}
use Rattle.std.proofs.lemmas.List.Elements.{All-map, All-push}
use Rattle.m88_dunit.specs.Inside.Stages.{ArePending, AreStages, IsStage, staged}
use Rattle.m88_dunit.specs.declared.stage.Stage.{Stage}
use Rattle.m88_isa.proofs.Laws.{told_of}
use Rattle.m88_isa.specs.Held.{most_pending}
use Rattle.m88_isa.specs.Memory.{IsWordAccess}
use Rattle.m88_isa.specs.Triples.{access_in, triple_of}
use Rattle.m88_isa.specs.declared.planned.Access.{Access}

-- what stages stand for
pub pending_in : (stages : List Stage) → AreStages stages → ArePending (staged stages)
pending_in stages h = record {
  few = rw length-map h.few;
  made = All-map IsWordAccess (λ stage. access_in stage.words) stages (λ i d within. (h.each i d within).made);
}

-- one access more
pub stage_of : (a : Access) → IsWordAccess a → IsStage (record { words = triple_of a })
stage_of a h = record {
  made = subst IsWordAccess (sym (told_of a h)) h;
  words = ap triple_of (told_of a h);
}

pub stages_with : (stages : List Stage) (a : Access) → AreStages stages → IsWordAccess a → length (staged stages) < most_pending →
    AreStages (stages ++ (record { words = triple_of a }) ∷ [])
stages_with stages a h made room =
    let before : length (staged stages) ≡ length stages = length-map stages (λ stage. access_in stage.words) in
    record {
      few = simp length-append (omega (arith, room, before));
      each = All-push IsStage stages (record { words = triple_of a }) h.each (stage_of a made);
    }

pub staged_with : (stages : List Stage) (a : Access) → IsWordAccess a →
    staged (stages ++ (record { words = triple_of a }) ∷ []) ≡ staged stages ++ a ∷ []
staged_with stages a made =
    map-append (λ stage. access_in stage.words) stages ((record { words = triple_of a }) ∷ [])
    ∙ ap (λ x. staged stages ++ x ∷ []) (told_of a made)
