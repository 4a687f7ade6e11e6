-- What software does makes no run longer: each event takes something off the weight of what is left of it.
use Rattle.std.specs.Prelude.{ℕ, Bool, true, false, not, List, Option, Some, None, ◌≡◌, ◌<◌, ◌≤◌, [], ◌∷◌, ◌+◌, ◌==◌, ◌&&◌, ◌||◌, is_some}
use Rattle.std.proofs.Common.{arith, refl, ap, ◌∙◌}
use Rattle.m88_base.specs.Image.{IsImage}
use Rattle.m88_codec.proofs.Laws.{program_in, program_in_holds}
use Rattle.m88_event.proofs.Laws.{lessens}
use Rattle.m88_event.specs.Bound.{fuel, weight}
use Rattle.m88_event.specs.Letters.{letter_at}
use Rattle.m88_event.specs.Local.{Local, is_over_by, move}
use Rattle.m88_event.specs.declared.happened.End.{End}
use Rattle.m88_event.specs.declared.letter.Letter.{Letter}
use Rattle.m88_isa.proofs.Laws.{by_test, program_of_image}
use Rattle.m88_isa.specs.Held.{is_pending}
use Rattle.m88_isa.specs.ImageProgram.{IsProgramOf}
use Rattle.m88_isa.specs.Machine.{IsProgram, Program}
use Rattle.m88_isa.specs.declared.planned.Access.{Access}
use Rattle.m88_board.specs.Board.{BoardView, local_of}
use Rattle.m88_board.specs.Kept.{IsKept}
use Rattle.m88_emul.specs.Extended.{Deed, aided, alone}
use Rattle.m88_emul.specs.Inside.Settled.{deed_seen, settled, settled_by}

no_longer : (schedule : List Letter) (limit k : ℕ) (end : Option End) (d : Deed) (l : Local) → (is_some end ≡ true → l.retired < limit) →
    weight schedule limit k (settled_by end d l) ≤ weight schedule limit k l
unfolding weight fuel
no_longer schedule limit k None d l room = omega arith
no_longer schedule limit k (Some end) (alone t) l room = omega arith
no_longer schedule limit k (Some end) (aided vector aid) l room = let early = room refl in omega (arith, early)

lighter_seen : (p : Program) (schedule : List Letter) (limit k : ℕ) (letter : Letter) (l new : Local) → IsProgram p → l.retired ≤ limit →
    is_over_by limit l ≡ false → letter ≡ letter_at schedule k →
    (is_some (move p limit letter l).ended ≡ true → (move p limit letter l).retired < limit) →
    new ≡ settled p (move p limit letter l) →
    weight schedule limit (k + 1) new < weight schedule limit k l
unfolding settled
lighter_seen p schedule limit k letter l new is within goes next early moved =
    let less = lessens p limit schedule k l is within goes in
    let same : move p limit letter l ≡ move p limit (letter_at schedule k) l = ap (λ (x : Letter). move p limit x l) next in
    let longer = no_longer schedule limit (k + 1) (move p limit letter l).ended (deed_seen p (move p limit letter l)) (move p limit letter l) early in
    let here = ap (weight schedule limit (k + 1)) moved in
    let there = ap (weight schedule limit (k + 1)) same in
    omega (arith, less, longer, here, there)

-- the event of a board, by what its image holds
pub lighter : (schedule : List Letter) (limit k : ℕ) (letter : Letter) (b mid : BoardView) (new : Local) → IsKept b → IsKept mid →
    b.limit ≡ limit → mid.limit ≡ limit → is_over_by limit (local_of b) ≡ false → letter ≡ letter_at schedule k →
    ((p : Program) → IsProgramOf b.memory.image p → local_of mid ≡ move p limit letter (local_of b)) →
    ((p : Program) → IsProgramOf b.memory.image p → new ≡ settled p (move p limit letter (local_of b))) →
    weight schedule limit (k + 1) new < weight schedule limit k (local_of b)
unfolding local_of
lighter schedule limit k letter b mid new kept after limits limits_after goes next moved so =
    let image : IsImage b.memory.image = kept.image in
    let p : Program = program_in false b.memory.image image in
    let of = program_in_holds false b.memory.image image in
    let is = program_of_image b.memory.image p image of in
    let within = kept.within in
    let ended = ap (λ (l : Local). is_some l.ended) (moved p of) in
    let retired = ap (λ (l : Local). l.retired) (moved p of) in
    lighter_seen p schedule limit k letter (local_of b) new is (omega (arith, within, limits)) goes next
    (λ over. let early = after.early (ended ∙ over) in omega (arith, early, retired, limits_after))
    (so p of)

-- a board that isn't over hasn't ended
idle_over : (pending : List Access) (end : Option End) (reached : Bool) → pending ≡ [] →
    (not (is_pending pending) && (is_some end || reached)) ≡ false →
    is_some end ≡ false
idle_over [] None reached none goes = refl
idle_over [] (Some end) reached none goes = absurd cc
idle_over (x ∷ xs) end reached none goes = absurd cc

pub still_lives : (limit : ℕ) (b : BoardView) → IsKept b → is_over_by limit (local_of b) ≡ false → is_some b.ended ≡ false
unfolding local_of
still_lives limit b kept goes = by_test (is_some b.ended)
    (λ over. idle_over b.pending b.ended (b.retired == limit) (kept.drained over) goes)
    (λ lives. lives)
