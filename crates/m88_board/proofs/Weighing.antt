-- What bounds a walk goes on bounding it.
use Rattle.std.specs.Prelude.{ℕ, Bool, true, false, not, List, ◌≡◌, ◌<◌, ◌≤◌, ◌+◌, length}
use Rattle.std.proofs.Common.{arith, refl, sym, ap, ap₂, ◌∙◌, subst}
use Rattle.m88_base.specs.Image.{IsImage}
use Rattle.m88_codec.proofs.Laws.{program_in, program_in_holds}
use Rattle.m88_event.proofs.Laws.{answered_lessens, lessens, stays_in_limit, weight_most}
use Rattle.m88_event.specs.Bound.{weight}
use Rattle.m88_event.specs.Letters.{letter_at, most_letters}
use Rattle.m88_event.specs.Local.{Local, is_over_by, move}
use Rattle.m88_event.specs.declared.letter.Letter.{Letter}
use Rattle.m88_event.specs.declared.letter.Letter.TheVariants.{Answer}
use Rattle.m88_isa.proofs.Laws.{program_of_image}
use Rattle.m88_isa.specs.Held.{is_pending}
use Rattle.m88_isa.specs.ImageProgram.{IsProgramOf}
use Rattle.m88_isa.specs.Machine.{Program}
use Rattle.m88_board.specs.Board.{BoardView, local_of}
use Rattle.m88_board.specs.Kept.{IsKept}
use Rattle.m88_board.specs.Moves.{IsSameRun}
use Rattle.m88_board.specs.Walks.{IsBounded, IsNoHeavier}

-- at first
squashed : (v : Bool) → not v ≡ true → v ≡ false
squashed true h = absurd cc
squashed false h = refl

pub bounded_first : (schedule : List Letter) (b : BoardView) → IsKept b → b.events ≡ 0 → length schedule ≤ most_letters →
    IsBounded schedule 0 b
unfolding local_of
bounded_first schedule b kept fresh few =
    let made = kept.made in
    let most = weight_most b.limit schedule 0 (local_of b) kept.within (omega (arith, made))
    (λ bubble. (kept.bubbled (squashed b.slots.nip.v bubble)).some) in
    record {
      small = kept.small;
      within = kept.within;
      few = few;
      made = omega arith;
      room = omega (arith, fresh, most);
    }

-- an event of the run's next letter takes something off the weight
pub lighter_next : (schedule : List Letter) (taken : ℕ) (letter : Letter) (old new : BoardView) →
    IsBounded schedule taken old → is_over_by old.limit (local_of old) ≡ false → letter ≡ letter_at schedule taken →
    IsKept new → IsSameRun old new →
    ((p : Program) → IsProgramOf old.memory.image p → local_of new ≡ move p old.limit letter (local_of old)) →
    weight schedule new.limit (taken + 1) (local_of new) < weight schedule old.limit taken (local_of old)
unfolding local_of
lighter_next schedule taken letter old new bounded goes next kept same moved =
    let image : IsImage old.memory.image = subst IsImage same.image kept.image in
    let p : Program = program_in false old.memory.image image in
    let of = program_in_holds false old.memory.image image in
    let is = program_of_image old.memory.image p image of in
    let less = lessens p old.limit schedule taken (local_of old) is bounded.within goes in
    let here : weight schedule new.limit (taken + 1) (local_of new)
    ≡ weight schedule old.limit (taken + 1) (move p old.limit (letter_at schedule taken) (local_of old)) =
    ap₂ (λ n (l : Local). weight schedule n (taken + 1) l) same.limit (moved p of ∙ ap (λ x. move p old.limit x (local_of old)) next) in
    subst (λ n. n < weight schedule old.limit taken (local_of old)) (sym here) less

pub bounded_next : (schedule : List Letter) (taken : ℕ) (old new : BoardView) → IsBounded schedule taken old → IsKept new →
    IsSameRun old new → new.events ≡ old.events + 1 →
    weight schedule new.limit (taken + 1) (local_of new) < weight schedule old.limit taken (local_of old) →
    IsBounded schedule (taken + 1) new
bounded_next schedule taken old new bounded kept same counted lighter =
    let made = bounded.made in
    let room = bounded.room in
    let limit = same.limit in
    record {
      small = kept.small;
      within = kept.within;
      few = bounded.few;
      made = omega (arith, made, counted);
      room = omega (arith, room, counted, lighter, limit);
    }

-- an answer beside the run's letters
pub answered_no_heavier : (old new : BoardView) → IsImage old.memory.image → is_pending old.pending ≡ true →
    IsSameRun old new → new.events ≡ old.events + 1 →
    ((p : Program) → IsProgramOf old.memory.image p → local_of new ≡ move p old.limit Answer (local_of old)) →
    IsNoHeavier old new
unfolding local_of
answered_no_heavier old new image some same counted moved =
    let p : Program = program_in false old.memory.image image in
    let of = program_in_holds false old.memory.image image in
    let is = program_of_image old.memory.image p image of in
    let limit = same.limit in
    record {
      counted = omega (arith, counted);
      within = λ h.
          let stays = stays_in_limit p old.limit Answer (local_of old) is h in
          let retired = ap (λ (l : Local). l.retired) (moved p of) in
          omega (arith, stays, retired, limit);
      weights = λ schedule taken.
          let less = answered_lessens p old.limit schedule taken (local_of old) some in
          let here = ap₂ (λ n (l : Local). weight schedule n taken l) limit (moved p of) in
          omega (arith, less, here, counted);
    }

-- some events, and then others
pub no_heavier_same : (b : BoardView) → IsNoHeavier b b
no_heavier_same b = record { counted = omega arith; within = λ h. h; weights = λ schedule taken. omega arith }

pub no_heavier_then : (a b c : BoardView) → IsNoHeavier a b → IsNoHeavier b c → IsNoHeavier a c
no_heavier_then a b c first later =
    let one = first.counted in
    let two = later.counted in
    record {
      counted = omega (arith, one, two);
      within = λ h. later.within (first.within h);
      weights = λ schedule taken.
          let here = first.weights schedule taken in
          let there = later.weights schedule taken in
          omega (arith, here, there);
    }

-- so a walk stays bounded
pub bounded_lighter : (schedule : List Letter) (taken : ℕ) (old new : BoardView) → IsBounded schedule taken old →
    IsSameRun old new → IsNoHeavier old new →
    IsBounded schedule taken new
bounded_lighter schedule taken old new bounded same lighter =
    let counted = lighter.counted in
    let small = bounded.small in
    let limit = same.limit in
    let made = bounded.made in
    let room = bounded.room in
    let weights = lighter.weights schedule taken in
    record {
      small = omega (arith, small, limit);
      within = lighter.within bounded.within;
      few = bounded.few;
      made = omega (arith, made, counted);
      room = omega (arith, room, weights, limit);
    }
