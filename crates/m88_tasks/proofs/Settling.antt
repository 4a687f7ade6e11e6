-- Which program is next, and whether it runs.
use Rattle.std.specs.Prelude.{ℕ, Bool, true, false, not, List, [], ◌∷◌, Option, Some, None, ◌≡◌, ◌<◌, ◌+◌, ◌-◌, ◌&&◌, length}
use Rattle.std.proofs.Common.{arith, refl, sym, ap, ap₂, subst, ◌∙◌}
use Rattle.m88_isa.specs.Held.{is_pending}
use Rattle.m88_isa.specs.declared.planned.Access.{Access}
use Rattle.m88_event.specs.Local.{is_over_by}
use Rattle.m88_event.specs.Timeline.{Moment, Run, is_over}
use Rattle.m88_board.specs.Board.{BoardView, local_of}
use Rattle.m88_board.specs.Moves.{IsAt}
use Rattle.m88_tasks.proofs.Choosing.{next_within}
use Rattle.m88_tasks.specs.Shared.{Group, first_alive, found_next, next_from, over_at, own_run, settled_from}
use Rattle.m88_tasks.specs.Tasks.{ArePrograms, ProgramsView}

pub next_behind : (g : Group) (moments : ℕ → Moment) (current at many q : ℕ) → at ≡ current → many ≡ g.count →
    Some q ≡ first_alive g moments (at + 1) (many - (at + 1)) → q ≡ next_from g moments current
unfolding next_from
next_behind g moments current at many q here size e =
    ap (λ (o : Option ℕ). found_next o (first_alive g moments 0 (current + 1)) current)
    (e ∙ ap (λ (n : ℕ). first_alive g moments (n + 1) (many - (n + 1))) here
    ∙ ap (λ (n : ℕ). first_alive g moments (current + 1) (n - (current + 1))) size)

pub next_before : (g : Group) (moments : ℕ → Moment) (current at many : ℕ) (before : Option ℕ) → at ≡ current → many ≡ g.count →
    None ≡ first_alive g moments (at + 1) (many - (at + 1)) → before ≡ first_alive g moments 0 (at + 1 - 0) →
    found_next None before current ≡ next_from g moments current
unfolding next_from
next_before g moments current at many before here size e f =
    let all : at + 1 - 0 ≡ current + 1 = omega (arith, here) in
    ap₂ (λ (o p : Option ℕ). found_next o p current)
    (e ∙ ap (λ (n : ℕ). first_alive g moments (n + 1) (many - (n + 1))) here
    ∙ ap (λ (n : ℕ). first_alive g moments (current + 1) (n - (current + 1))) size)
    (f ∙ ap (λ (n : ℕ). first_alive g moments 0 n) all)

-- the program that runs is over, by the board
pub board_says : (g : Group) (moments : ℕ → Moment) (current : ℕ) (v : ProgramsView) (result : Bool) → ArePrograms g moments current v →
    ((r : Run) (m : Moment) → IsAt r m v.board → result ≡ is_over r m) → result ≡ over_at g moments current
board_says g moments current v result are says =
    says (own_run g current) (moments current) are.board

pub settled_same : (g : Group) (moments : ℕ → Moment) (current : ℕ) (v : ProgramsView) → over_at g moments current ≡ false →
    ArePrograms g moments current v → ArePrograms g moments (settled_from g moments current) v
settled_same g moments current v alive are = rw alive are

pub settled_next : (g : Group) (moments : ℕ → Moment) (current next : ℕ) (v : ProgramsView) → over_at g moments current ≡ true →
    next ≡ next_from g moments current → ArePrograms g moments next v → ArePrograms g moments (settled_from g moments current) v
settled_next g moments current next v over is are = rw over (subst (λ (n : ℕ). ArePrograms g moments n v) is are)

-- nothing is pending on a board that is over
none_of : (pending : List Access) (idle : Bool) → (not (is_pending pending) && idle) ≡ true → pending ≡ []
none_of [] idle h = refl
none_of (a ∷ pending) idle h = absurd (let no : false ≡ true = h in cc)

pub over_empty : (b : BoardView) (result : Bool) → result ≡ true → result ≡ is_over_by b.limit (local_of b) → b.pending ≡ []
unfolding local_of
over_empty b result over says = none_of b.pending _ (sym says ∙ over)

-- the next program has a place
pub next_inside : (g : Group) (moments : ℕ → Moment) (current next : ℕ) (v : ProgramsView) → ArePrograms g moments current v →
    next ≡ next_from g moments current → next < length v.contexts
next_inside g moments current next v are is =
    let inside = next_within g moments current are.here in
    let count = are.count in
    omega (arith, inside, count, is)
