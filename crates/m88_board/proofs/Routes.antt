-- What bounds a route goes on bounding it.
use Rattle.std.specs.Prelude.{true, false, not, List, [], ◌∷◌, ◌≡◌, ◌<◌, ◌≤◌, ◌+◌, ◌-◌}
use Rattle.std.proofs.Common.{arith, refl, ap, subst, ◌∙◌}
use Rattle.m88_base.specs.Image.{IsImage}
use Rattle.m88_event.specs.Local.{move}
use Rattle.m88_event.specs.declared.happened.Happened.{Happened}
use Rattle.m88_event.specs.declared.letter.Letter.{Letter}
use Rattle.m88_isa.specs.Held.{is_pending}
use Rattle.m88_isa.specs.declared.planned.Access.{Access}
use Rattle.m88_board.proofs.Choosing.{some_count}
use Rattle.m88_board.proofs.Weighing.{answered_no_heavier, bounded_next, lighter_next, no_heavier_same, no_heavier_then}
use Rattle.m88_board.specs.Board.{BoardView, local_of}
use Rattle.m88_board.specs.Inside.Routes.{CanBeCounted, IsBoundedBy, has_to_rest, letters_by}
use Rattle.m88_board.specs.Kept.{IsKept, most_events}
use Rattle.m88_board.specs.Moves.{Happens}
use Rattle.m88_board.specs.Walks.{IsBounded}
use Rattle.m88_board.specs.declared.route.Route.{Route}
use Rattle.m88_board.specs.declared.route.Route.TheVariants.{Run, Answers}

-- something is pending where answers go on
some_left : (xs : List Access) → not (is_pending xs) ≡ false → is_pending xs ≡ true
some_left [] h = absurd cc
some_left (x ∷ xs) h = refl

-- before its first event
pub bounded_at_first : (route : Route) (b : BoardView) → CanBeCounted route b → IsBoundedBy route b b
bounded_at_first (Run schedule taken until) b room =
    let place : taken ≡ taken + (b.events - b.events) = omega arith in
    subst (λ n. IsBounded schedule.now n b) place room
bounded_at_first Answers b room = record { bounded = omega arith; lighter = no_heavier_same b }

-- one event more is counted
pub next_counted : (route : Route) (first old : BoardView) → CanBeCounted route first → IsKept first →
    IsBoundedBy route first old → has_to_rest route old ≡ false →
    old.events < most_events
next_counted (Run schedule taken until) first old room kept bounded going =
    let small = bounded.small in
    let few = bounded.few in
    let most = bounded.room in
    omega (arith, small, few, most)
next_counted Answers first old room kept bounded going =
    let some = some_count old.pending (some_left old.pending going) in
    let few = kept.parts.few in
    let most = bounded.bounded in
    omega (arith, room, some, few, most)

-- behind an event of its next letter
pub bounded_behind : (route : Route) (letter : Letter) (first old : BoardView) (happened : Happened) (new : BoardView) →
    IsBoundedBy route first old →
    has_to_rest route old ≡ false → first.events ≤ old.events →
    letter ≡ letters_by route (old.events - first.events) →
    Happens letter old happened new →
    IsBoundedBy route first new
bounded_behind (Run schedule taken until) letter first old happened new bounded going begun is event =
    let counted = event.counted in
    let here = taken + (old.events - first.events) in
    let place : here + 1 ≡ taken + (new.events - first.events) = omega (arith, begun, counted) in
    subst (λ n. IsBounded schedule.now n new) place
    (bounded_next schedule.now here old new bounded event.kept event.same counted
    (lighter_next schedule.now here letter old new bounded going is event.kept event.same
    (λ p of. (event.moved p of).moved)))
bounded_behind Answers letter first old happened new bounded going begun is event =
    let counted = event.counted in
    let pending = some_left old.pending going in
    let some = some_count old.pending pending in
    let less = event.shorter is in
    let before = bounded.bounded in
    record {
      bounded = omega (arith, some, less, counted, before);
      lighter = no_heavier_then first old new bounded.lighter
          (answered_no_heavier old new (subst IsImage event.same.image event.kept.image) pending event.same counted
          (λ p of. (event.moved p of).moved ∙ ap (λ x. move p old.limit x (local_of old)) is));
    }
