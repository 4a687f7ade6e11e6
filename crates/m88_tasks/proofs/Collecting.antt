-- What each program came to, one after the other.
use Rattle.std.specs.Prelude.{ℕ, true, List, [], ◌∷◌, ◌++◌, Option, Some, None, ◌≡◌, ◌≢◌, ◌<◌, ◌≤◌, ◌+◌, is_some, length, slice_get, slice_set, IfOk, Result, Ok, Err}
use Rattle.std.proofs.Common.{add-one, arith, refl, sym, ap, ap₂, subst, ◌∙◌}
use Rattle.std.proofs.lemmas.List.{length-set}
use Rattle.m88_base.specs.declared.failing.NoMemory.{NoMemory}
use Rattle.m88_event.specs.Run.{outcome_at}
use Rattle.m88_event.specs.Timeline.{Moment, Run, is_over}
use Rattle.m88_event.specs.declared.outcome.Outcome.{Outcome}
use Rattle.m88_board.specs.Contexts.{StandsFor}
use Rattle.m88_board.specs.declared.context.Context.{Context}
use Rattle.m88_tasks.proofs.Places.{set_there}
use Rattle.m88_tasks.specs.Inside.Taking.{IsOutcomeOf}
use Rattle.m88_tasks.specs.Shared.{Group, outcomes_of, over_at, own_run}
use Rattle.m88_tasks.specs.Tasks.{ArePlaces, IsOnlyNone}

-- what stands after so many places: the places behind are as they were, and the outcome of the one that runs is there
-- until its place
pub record Collected (places : List (Option Context)) (own : Outcome) (contexts : List (Option Context)) (kept : Option Outcome)
    (outcomes : List Outcome) (q : ℕ) : Type 0 where
  pub size : length contexts ≡ length places
  pub rest : (k : ℕ) → q ≤ k → slice_get contexts k ≡ slice_get places k
  pub waits : (current : ℕ) → IsOnlyNone places current → q ≤ current → kept ≡ Some own
  pub made : (g : Group) (moments : ℕ → Moment) (current : ℕ) → ArePlaces g moments current places
      → ((k : ℕ) → k < length places → over_at g moments k ≡ true) → own ≡ outcome_at (g.programs current) (moments current)
      → outcomes ≡ outcomes_of g moments q

pub collected_first : (places : List (Option Context)) (own : Outcome) (outcomes : List Outcome) → outcomes ≡ [] →
    Collected places own places (Some own) outcomes 0
unfolding outcomes_of
collected_first places own outcomes e = record {
  size = refl;
  rest = λ k h. refl;
  waits = λ current only h. refl;
  made = λ g moments current are over here. e;
}

one_more : (g : Group) (moments : ℕ → Moment) (q : ℕ) → outcomes_of g moments (q + 1) ≡ outcomes_of g moments q ++ (outcome_at (g.programs q) (moments q) ∷ [])
unfolding outcomes_of
one_more g moments q = ap (outcomes_of g moments) (add-one q)

same_some : (a b : Outcome) → Some a ≡ Some b → a ≡ b
same_some a b e = cc

-- of the one that runs it was kept
at_none : (places : List (Option Context)) (q current : ℕ) → IsOnlyNone places current → slice_get places q ≡ Some None → q ≡ current
at_none places q current only h = only q h

only_of : (g : Group) (moments : ℕ → Moment) (current : ℕ) (places : List (Option Context)) → ArePlaces g moments current places → IsOnlyNone places current
only_of g moments current places are = λ q h. are q None h

-- what the place of a program came to
outcome_of_place : (places : List (Option Context)) (own o : Outcome) (contexts : List (Option Context)) (kept : Option Outcome) (outcomes : List Outcome)
    (q : ℕ) (place : Option Context) (g : Group) (moments : ℕ → Moment) (current : ℕ) →
    Collected places own contexts kept outcomes q → slice_get places q ≡ Some place → q < length places →
    IsOutcomeOf place kept o → ArePlaces g moments current places → ((k : ℕ) → k < length places → over_at g moments k ≡ true) →
    own ≡ outcome_at (g.programs current) (moments current) → o ≡ outcome_at (g.programs q) (moments q)
outcome_of_place places own o contexts kept outcomes q None g moments current has at inside came are over here =
    let same : q ≡ current = are q None at in
    let waits = has.waits current (only_of g moments current places are) (omega (arith, same)) in
    same_some o own (sym (came.own_is refl) ∙ waits) ∙ here ∙ ap (λ (n : ℕ). outcome_at (g.programs n) (moments n)) (sym same)
outcome_of_place places own o contexts kept outcomes q (Some c) g moments current has at inside came are over here =
    came.saved (own_run g q) (moments q) c refl (are q (Some c) at).1 (over q inside)

kept_on : (places : List (Option Context)) (own : Outcome) (kept later : Option Outcome) (q current : ℕ) (place : Option Context) →
    slice_get places q ≡ Some place → IsOnlyNone places current → q + 1 ≤ current → ((c : Context) → place ≡ Some c → later ≡ kept) → kept ≡ Some own → later ≡ Some own
kept_on places own kept later q current None at only low same waits = absurd (let here = only q at in omega (arith, here, low))
kept_on places own kept later q current (Some c) at only low same waits = same c refl ∙ waits

pub collected_next : (places : List (Option Context)) (own o : Outcome) (contexts : List (Option Context)) (kept later : Option Outcome)
    (outcomes more : List Outcome) (q : ℕ) (place : Option Context) → Collected places own contexts kept outcomes q → slice_get contexts q ≡ Some place →
    q < length contexts →
    IsOutcomeOf place kept o → ((c : Context) → place ≡ Some c → later ≡ kept) → more ≡ outcomes ++ (o ∷ []) →
    Collected places own (slice_set contexts q None) later more (q + 1)
collected_next places own o contexts kept later outcomes more q place has at inside came same e =
    let size = has.size in
    let held : slice_get places q ≡ Some place = sym (has.rest q (omega arith)) ∙ at in
    record {
      size = length-set contexts q None ∙ has.size;
      rest = λ k h.
          let apart : k ≢ q = λ is. absurd (omega (arith, h, is)) in
          set_there contexts q k None apart ∙ has.rest k (omega (arith, h));
      waits = λ current only low.
          kept_on places own kept later q current place held only low same (has.waits current only (omega (arith, low)));
      made = λ g moments current are over here.
          e
          ∙ ap₂ (λ (xs : List Outcome) (x : Outcome). xs ++ (x ∷ [])) (has.made g moments current are over here)
          (outcome_of_place places own o contexts kept outcomes q place g moments current has held (omega (arith, inside, size)) came are over here)
          ∙ sym (one_more g moments q);
    }

-- a place with no context has its outcome kept
pub kept_some : (places : List (Option Context)) (own : Outcome) (contexts : List (Option Context)) (kept : Option Outcome) (outcomes : List Outcome)
    (q current : ℕ) (place : Option Context) → Collected places own contexts kept outcomes q → IsOnlyNone places current → slice_get contexts q ≡ Some place →
    place ≡ None → is_some kept ≡ true
kept_some places own contexts kept outcomes q current place has only at none =
    let held : slice_get places q ≡ Some None = sym (has.rest q (omega arith)) ∙ at ∙ ap Some none in
    let here = only q held in
    ap is_some (has.waits current only (omega (arith, here)))

-- the outcome of a context, by the place that it had
pub outcome_saved : (r : Result Outcome NoMemory) (place : Option Context) (own : Option Outcome) (mine : Context) → place ≡ Some mine →
    IfOk r (λ o. (run : Run) (m : Moment) → StandsFor run m mine → is_over run m ≡ true → o ≡ outcome_at run.program m) →
    IfOk r (IsOutcomeOf place own)
outcome_saved (Ok o) place own mine is h = record {
  saved = λ run m c e stands over. h run m (subst (StandsFor run m) (same_context c mine (sym e ∙ is)) stands) over;
  own_is = λ none. absurd (some_none (sym is ∙ none));
}
  where
    same_context : (a b : Context) → Some a ≡ Some b → a ≡ b
    same_context a b e = cc

    some_none : Some mine ≡ None → ⊥
    some_none e = cc
outcome_saved (Err e) place own mine is h = tt
