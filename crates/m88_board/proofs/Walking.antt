-- Along the letters of a route, one event after the other, and whole runs.
use Rattle.std.specs.Prelude.{ℕ, zero, suc, Bool, false, not, List, [], ◌∷◌, Option, OnErr, OnOk, Result, Ok, Err, ◌≡◌, ◌+◌, ◌==◌, ◌||◌}
use Rattle.std.proofs.Common.{add-one, arith, sym, ap, ap₂, ◌∙◌, subst}
use Rattle.std.proofs.Math.Path.{fun_ext}
use Rattle.std.proofs.lemmas.Bool.{eqb-false, eqb-true}
use Rattle.m88_event.proofs.Laws.{drained_seen, letter_events}
use Rattle.m88_event.specs.Letters.{letter_at}
use Rattle.m88_event.specs.Local.{Local}
use Rattle.m88_event.specs.Run.{NotBefore, letters_from, moment_after, moment_along}
use Rattle.m88_event.specs.Timeline.{Moment, Run, after_letter, is_drained, is_over, opening_moment}
use Rattle.m88_event.specs.declared.letter.Letter.{Letter}
use Rattle.m88_isa.proofs.Laws.{by_test}
use Rattle.m88_isa.specs.Held.{is_pending}
use Rattle.m88_board.proofs.Seeing.{saw_none, saw_then}
use Rattle.m88_board.specs.Board.{BoardView, local_of}
use Rattle.m88_board.specs.Glances.{glance_at, glances_along}
use Rattle.m88_board.specs.Inside.Routes.{stops_at_event, letters_by, moments_by, stops_at_moment}
use Rattle.m88_board.specs.Moves.{IsAlong, IsAt, IsStep}
use Rattle.m88_board.specs.Walks.{is_enough, moments_from, never, stops_after}
use Rattle.m88_board.specs.declared.until.Until.{Until}
use Rattle.m88_board.specs.declared.route.Route.{Route}
use Rattle.m88_board.specs.declared.glance.Glance.{Glance}

-- a condition that didn't hold so far doesn't hold after one event more
pub not_yet : (halts : ℕ → Bool) (k : ℕ) → NotBefore halts k → halts k ≡ false → NotBefore halts (suc k)
not_yet halts k none here = λ j h. by_test (j == k)
    (λ same. subst (λ (n : ℕ). halts n ≡ false) (sym (eqb-true j k same)) here)
    (λ other. let apart = eqb-false j k other in none j (omega (arith, h, apart)))

-- what holds after as many events of a route from a moment on, of which none came after it stopped
pub record Goes (route : Route) (r : Run) (m : Moment) (k : ℕ) (before after : Option (List Glance)) (b : BoardView)
    : Type 0 where
  pub along : IsAlong r (moments_by route r m) k before after b
  pub first : NotBefore (stops_at_event route r m) k

-- nothing yet
pub goes_start : (route : Route) (r : Run) (m : Moment) (k : ℕ) (seen : Option (List Glance)) (b : BoardView) → k ≡ 0 →
    IsAt r m b → Goes route r m k seen seen b
unfolding moment_along glances_along
goes_start route r m k seen b none at =
    subst (λ (n : ℕ). Goes route r m n seen seen b) (sym none) (record {
      along = record { at = at; saw = saw_none seen };
      first = λ j h. absurd (omega (arith, h));
    })

-- whether it stops is seen
pub stops_there : (route : Route) (r : Run) (m : Moment) (made k : ℕ) (stops : Bool) → made ≡ k →
    stops ≡ stops_at_moment route r made (moments_by route r m k) → stops_at_event route r m k ≡ stops
stops_there route r m made k stops place says =
    sym (says ∙ ap (λ (j : ℕ). stops_at_moment route r j (moments_by route r m k)) place)

-- and one more
pub goes_step : (route : Route) (r : Run) (m : Moment) (k next : ℕ) (before here after : Option (List Glance))
    (letter : Letter) (b c : BoardView) → next ≡ k + 1 → letter ≡ letters_by route k →
    Goes route r m k before here b → stops_at_event route r m k ≡ false →
    IsStep r letter (moments_by route r m k) here after c →
    Goes route r m next before after c
unfolding moment_along glances_along
goes_step route r m k next before here after letter b c one is goes on step =
    let step : IsStep r (letters_by route k) (moments_by route r m k) here after c =
    subst (λ (x : Letter). IsStep r x (moments_by route r m k) here after c) is step in
    subst (λ (n : ℕ). Goes route r m n before after c) (sym (one ∙ add-one k)) (record {
      along = record {
        at = step.at;
        saw =
            saw_then before here after (glances_along r.program (moments_by route r m) k)
            (glance_at r.program (after_letter r (letters_by route k) (moments_by route r m k)) ∷ []) goes.along.saw step.saw;
      };
      first = not_yet (stops_at_event route r m) k goes.first on;
    })

-- the letters of a route that are those of a run
pub by_own : (until : Until) (r : Run) (m : Moment) (schedule : List Letter) (taken events : ℕ)
    (First : (ℕ → Bool) → ℕ → Type 0) {before after : Option (List Glance)} {b : BoardView} → r.schedule ≡ schedule →
    First (λ k. is_enough until r.program k (moment_along r (letters_from schedule taken) m k)
    || is_over r (moment_along r (letters_from schedule taken) m k)) events →
    IsAlong r (moment_along r (letters_from schedule taken) m) events before after b →
    First (stops_after (is_enough until) r taken m) events × IsAlong r (moments_from r taken m) events before after b
by_own until r m schedule taken events First {before} {after} {b} same first along =
    subst (λ (letters : List Letter).
    First (λ k. is_enough until r.program k (moment_along r (letters_from letters taken) m k)
    || is_over r (moment_along r (letters_from letters taken) m k)) events
    × IsAlong r (moment_along r (letters_from letters taken) m) events before after b) (sym same) (first, along)

-- a walk from the first letter on that nothing stops is a run
first_letters : (schedule : List Letter) → letters_from schedule 0 ≡ letter_at schedule
first_letters schedule = fun_ext (λ k. let same : 0 + k ≡ k = omega arith in ap (letter_at schedule) same)

pub run_went : (Holds : (ℕ → Bool) → (ℕ → Moment) → Type 0) (r : Run) (taken : ℕ) → taken ≡ 0 →
    Holds (stops_after never r taken opening_moment) (moments_from r taken opening_moment) →
    Holds (λ k. is_over r (moment_after r k)) (moment_after r)
run_went Holds r taken none =
    subst (λ (letters : ℕ → Letter). Holds (λ k. is_over r (moment_along r letters opening_moment k))
    (moment_along r letters opening_moment)) (ap (letters_from r.schedule) none ∙ first_letters r.schedule)

-- so many events of letters
pub along_events : (r : Run) (letters : ℕ → Letter) (m : Moment) (k : ℕ) → (moment_along r letters m k).events ≡ m.events + k
unfolding moment_along
along_events r letters m zero = omega arith
along_events r letters m (suc k) =
    let before = along_events r letters m k in
    let one = letter_events r (letters k) (moment_along r letters m k) in
    omega (arith, before, one)

-- what holds at any answer holds where memory ran out
pub on_err : {T E P : Type 0} (r : Result T E) → P → OnErr r P
on_err (Ok x) p = tt
on_err (Err e) p = p

-- what follows from all that holds at an answer
pub on_ok : {T E P Q R S : Type 0} (r : Result T E) → OnOk r P → OnOk r Q → OnOk r R → (P → Q → R → S) → OnOk r S
on_ok (Ok x) p q r f = f p q r
on_ok (Err e) p q r f = tt

-- whether something is pending is seen
pub drained_by : (r : Run) (m : Moment) (b : BoardView) → IsAt r m b → not (is_pending b.pending) ≡ is_drained r.program m
unfolding local_of
drained_by r m b at = ap (λ (l : Local). not (is_pending l.pending)) at.seen ∙ drained_seen r m at.within
