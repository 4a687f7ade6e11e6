-- A shared run, event after event, until every program is over.
use Rattle.std.specs.Prelude.{ℕ, zero, suc, true, false, List, [], ◌∷◌, ◌++◌, Option, Some, None, ◌≡◌, ◌<◌, ◌≤◌, ◌+◌, ◌*◌, length, nat_lt, slice_get}
use Rattle.std.proofs.Common.{add-one, ap, ap₂, arith, length-append, refl, subst, sym, ◌∙◌}
use Rattle.std.proofs.lemmas.Bool.{ltb-false, ltb-true}
use Rattle.std.proofs.lemmas.Nat.{mul-le}
use Rattle.std.proofs.lemmas.Option.{slice_get_within}
use Rattle.m88_board.specs.declared.context.Context.{Context}
use Rattle.m88_isa.proofs.Laws.{by_test}
use Rattle.m88_isa.specs.Machine.{IsProgram}
use Rattle.m88_board.proofs.Laws.{not_yet}
use Rattle.m88_board.specs.Board.{local_of}
use Rattle.m88_board.specs.Kept.{most_events}
use Rattle.m88_event.proofs.Laws.{same_over}
use Rattle.m88_event.specs.Letters.{most_letters}
use Rattle.m88_event.specs.Local.{Local, is_over_by, local_at}
use Rattle.m88_event.specs.Past.{HasPast}
use Rattle.m88_event.specs.Run.{IsOutcome, NotBefore, outcome_at}
use Rattle.m88_event.specs.Timeline.{Moment}
use Rattle.m88_event.specs.declared.outcome.Outcome.{Outcome}
use Rattle.m88_tasks.proofs.Choosing.{each_over, no_true}
use Rattle.m88_tasks.proofs.Isolation.{IsApart, apart_first, apart_on}
use Rattle.m88_tasks.proofs.Past.{alive_by, events_then, past_then}
use Rattle.m88_tasks.proofs.RunAlone.{lettered, own_outcome}
use Rattle.m88_tasks.proofs.Sharing.{CanGo, left, left_at_first, less_left}
use Rattle.m88_tasks.specs.Letters.{share_letter_at}
use Rattle.m88_tasks.specs.Shared.{AreOwnOutcomes, Group, IsShared, SharedMoment, after_share, all_over, opening_shared, outcomes_of, over_at, own_run, shared_after, shared_at}
use Rattle.m88_tasks.specs.Tasks.{ArePrograms, AreTasks, IsPlaceAt, IsTaken, IsTasksAt, ProgramsView, TasksView, is_over_view, most_shared_events}
use Rattle.m88_tasks.specs.declared.letter.ShareLetter.{ShareLetter}
use Rattle.m88_tasks.specs.declared.shared.Shared.{Shared}
use Rattle.m88_tasks.specs.declared.shared.Switch.{Switch}
use Rattle.m88_tasks.specs.declared.turned.Turned.{Turned}

-- whether the program that runs is over is seen of the board
pub seen_over : (g : Group) (moments : ℕ → Moment) (current : ℕ) (v : ProgramsView) → ArePrograms g moments current v →
    is_over_by v.board.limit (local_of v.board) ≡ over_at g moments current
seen_over g moments current v are =
    ap₂ is_over_by are.board.limit are.board.seen ∙ same_over (own_run g current) (moments current) are.board.within

pub alive_view : (g : Group) (s : SharedMoment) (t : TasksView) → IsTasksAt g s t → is_over_view t ≡ false → over_at g s.moments s.current ≡ false
alive_view g s t at going = sym (seen_over g s.moments s.current t.programs at.programs) ∙ going

-- every program is over exactly where the one that runs is
pub over_view : (g : Group) (s : SharedMoment) (t : TasksView) → IsTasksAt g s t → is_over_view t ≡ all_over g s.moments
over_view g s t at =
    seen_over g s.moments s.current t.programs at.programs
    ∙ by_test (over_at g s.moments s.current)
    (λ over. over ∙ sym (at.past.lives over))
    (λ alive. alive ∙ sym (by_test (all_over g s.moments)
    (λ all. absurd (no_true (over_at g s.moments s.current) (each_over g s.moments s.current all at.programs.here) alive))
    (λ some. some)))

-- no board had more events than are counted
pub board_room : (t : TasksView) → AreTasks t → t.events < most_events → t.programs.board.events < most_events
unfolding local_of local_at
board_room t are room =
    let s : SharedMoment = are.moment in
    let same : t.programs.board.events ≡ (s.moments s.current).events = ap (λ (l : Local). l.events) are.at.programs.board.seen in
    let counted = are.at.past.counted s.current in
    let events = are.at.events in
    omega (arith, same, counted, events, room)

-- a letter was taken, and its event is counted
pub taken_at : (g : Group) (s : SharedMoment) (letter : ShareLetter) (turned : Turned) (t : TasksView) (v : ProgramsView) (switches : List Switch) →
    IsTasksAt g s t → IsTaken g letter s turned v switches →
    IsTasksAt g (after_share g letter s) (record { programs = v; events = t.events + 1; switches = switches })
taken_at g s letter turned t v switches at taken = record {
  programs = taken.programs;
  events = ap (λ (n : ℕ). n + 1) at.events ∙ sym (events_then g letter s);
  switches = taken.joined;
  past = past_then g letter s at.programs.here at.past;
}

-- what holds after as many events of a run
pub record Went (g : Group) (schedule : List ShareLetter) (k : ℕ) (t : TasksView) : Type 0 where
  pub at : IsTasksAt g (shared_after g schedule k) t
  pub first : NotBefore (λ j. all_over g (shared_after g schedule j).moments) k
  pub apart : IsApart g (shared_after g schedule k).moments (shared_after g schedule k).owns
  pub count : (shared_after g schedule k).events ≡ k

pub went_first : (g : Group) (schedule : List ShareLetter) (t : TasksView) → IsTasksAt g (opening_shared g) t → Went g schedule 0 t
unfolding shared_after
went_first g schedule t at = record {
  at = at;
  first = λ j h. absurd (omega (arith, h));
  apart = apart_first g;
  count = refl;
}

went_suc : (g : Group) (schedule : List ShareLetter) (k : ℕ) (t next : TasksView) → Went g schedule k t → is_over_view t ≡ false →
    IsTasksAt g (after_share g (share_letter_at schedule k) (shared_after g schedule k)) next → Went g schedule (suc k) next
unfolding shared_after
went_suc g schedule k t next went going at =
    let s : SharedMoment = shared_after g schedule k in
    let some : all_over g s.moments ≡ false = sym (over_view g s t went.at) ∙ going in
    record {
      at = at;
      first = not_yet (λ j. all_over g (shared_after g schedule j).moments) k went.first some;
      apart = apart_on g (share_letter_at schedule k) s went.apart (alive_by g s went.at.past some);
      count = events_then g (share_letter_at schedule k) s ∙ ap (λ (n : ℕ). n + 1) went.count ∙ add-one k;
    }

pub went_next : (g : Group) (schedule : List ShareLetter) (k : ℕ) (t next : TasksView) → Went g schedule k t → is_over_view t ≡ false →
    IsTasksAt g (after_share g (share_letter_at schedule k) (shared_after g schedule k)) next → Went g schedule (k + 1) next
went_next g schedule k t next went going at =
    subst (λ (n : ℕ). Went g schedule n next) (sym (add-one k)) (went_suc g schedule k t next went going at)

-- an item in front of others, and the last one
pub in_front : {X : Type 0} (xs : List X) (y : X) (i : ℕ) → i < length xs → slice_get (xs ++ (y ∷ [])) i ≡ slice_get xs i
in_front [] y i h = absurd (omega (arith, h))
in_front (x ∷ xs) y zero h = refl
in_front (x ∷ xs) y (suc i) h = in_front xs y i (omega (arith, h))

pub at_last : {X : Type 0} (xs : List X) (y : X) → slice_get (xs ++ (y ∷ [])) (length xs) ≡ Some y
at_last [] y = refl
at_last (x ∷ xs) y = at_last xs y

pub outcomes_length : (g : Group) (moments : ℕ → Moment) (n : ℕ) → length (outcomes_of g moments n) ≡ n
unfolding outcomes_of
outcomes_length g moments zero = refl
outcomes_length g moments (suc n) =
    let before = outcomes_length g moments n in
    let joined = length-append (outcomes_of g moments n) (outcome_at (g.programs n) (moments n) ∷ []) in
    omega (arith, before, joined)

-- the outcomes by their places
same_some : {X : Type 0} (a b : X) → Some a ≡ Some b → a ≡ b
same_some a b e = cc

outcome_in : (g : Group) (moments : ℕ → Moment) (n q : ℕ) (outcome : Outcome) → slice_get (outcomes_of g moments n) q ≡ Some outcome →
    (q < n) × (outcome ≡ outcome_at (g.programs q) (moments q))
unfolding outcomes_of
outcome_in g moments zero q outcome h = absurd cc
outcome_in g moments (suc n) q outcome h =
    let last : Outcome = outcome_at (g.programs n) (moments n) in
    let front : List Outcome = outcomes_of g moments n in
    let size = outcomes_length g moments n in
    let joined = length-append front (last ∷ []) in
    let inside = slice_get_within (front ++ (last ∷ [])) q outcome h in
    by_test (nat_lt q n)
    (λ t.
    let low = ltb-true q n t in
    let before = outcome_in g moments n q outcome (sym (in_front front last q (omega (arith, low, size))) ∙ h) in
    (omega (arith, low), before.1))
    (λ f.
    let high = ltb-false q n f in
    let here : q ≡ n = omega (arith, high, inside, joined, size) in
    let place : length front ≡ q = omega (arith, here, size) in (
      omega (arith, here),
      sym (same_some last outcome (sym (at_last front last) ∙ ap (slice_get (front ++ (last ∷ []))) place ∙ h))
          ∙ ap (λ (m : ℕ). outcome_at (g.programs m) (moments m)) (sym here),
    ))

pub went_shared : (g : Group) (schedule : List ShareLetter) (k : ℕ) (t : TasksView) (o : Shared) → Went g schedule k t → is_over_view t ≡ true →
    o ≡ shared_at g (shared_after g schedule k) → IsShared g schedule o
went_shared g schedule k t o went over value = record {
  events = k;
  run = record { here = sym (over_view g (shared_after g schedule k) t went.at) ∙ over; first = went.first };
  value = value;
}

pub went_own : (g : Group) (schedule : List ShareLetter) (k : ℕ) (t : TasksView) (o : Shared) → Went g schedule k t → is_over_view t ≡ true →
    o ≡ shared_at g (shared_after g schedule k) → AreOwnOutcomes g schedule o
went_own g schedule k t o went over value =
    let s : SharedMoment = shared_after g schedule k in
    let all : all_over g s.moments ≡ true = sym (over_view g s t went.at) ∙ over in
    let events : k ≡ o.events = sym (ap (λ (x : Shared). x.events) value ∙ went.count) in
    record {
      count = ap (λ (x : Shared). length x.outcomes) value ∙ outcomes_length g s.moments g.count;
      own = λ q outcome h.
          let here = outcome_in g s.moments g.count q outcome (ap (λ (x : Shared). slice_get x.outcomes q) (sym value) ∙ h) in
          subst (λ (n : ℕ). IsOutcome (lettered g q ((shared_after g schedule n).owns q)) outcome) events
          (subst (IsOutcome (lettered g q (s.owns q))) (sym here.1)
          (own_outcome g s.moments s.owns q went.apart (each_over g s.moments q all here.0)));
    }

-- what is left of the programs of some group, and the most events that their run has
pub record HasRoom (letters : ℕ) (schedule : List ShareLetter) (k : ℕ) (programs limit : ℕ) (t : TasksView) : Type 0 where
  pub group : Group
  pub moment : SharedMoment
  pub at : IsTasksAt group moment t
  pub many : group.count ≡ programs
  pub most : group.limit ≡ limit
  pub room : k + left group schedule k moment.moments moment.current ≤ most_shared_events letters group.count group.limit

known : (g : Group) (moments : ℕ → Moment) (current : ℕ) (v : ProgramsView) → ArePrograms g moments current v → (q : ℕ) → q < g.count →
    IsProgram (g.programs q) × HasPast (own_run g q) (moments q)
known g moments current v are q inside =
    let place = there v.contexts q (let size = are.count in omega (arith, inside, size)) in
    (are.programs q inside, by_place place.0 (are.places q place.0 place.1))
  where
    there : (xs : List (Option Context)) (i : ℕ) → i < length xs → (x : Option Context) × (slice_get xs i ≡ Some x)
    there [] i h = absurd (omega (arith, h))
    there (x ∷ xs) zero h = (x, refl)
    there (x ∷ xs) (suc i) h = there xs i (omega (arith, h))

    by_place : (place : Option Context) → IsPlaceAt g moments current q place → HasPast (own_run g q) (moments q)
    by_place None here =
        subst (λ (n : ℕ). HasPast (own_run g n) (moments n)) (sym here) are.board.past
    by_place (Some c) here = here.1.past

pub room_first : (letters : ℕ) (schedule : List ShareLetter) (t : TasksView) → AreTasks t → letters ≡ length schedule →
    HasRoom letters schedule 0 (length t.programs.contexts) t.programs.board.limit t
room_first letters schedule t are same = record {
  group = are.group;
  moment = are.moment;
  at = are.at;
  many = sym are.at.programs.count;
  most = sym are.at.programs.board.limit;
  room =
      let most = left_at_first are.group schedule are.moment.moments are.moment.current
      (known are.group are.moment.moments are.moment.current t.programs are.at.programs) in
      omega (arith, most, same);
}

can_go : (g : Group) (s : SharedMoment) (t : TasksView) → IsTasksAt g s t → is_over_view t ≡ false → CanGo g s.moments s.current
can_go g s t at going = record {
  program = at.programs.programs s.current at.programs.here;
  within = at.programs.board.within;
  few = at.programs.board.past.within;
  here = at.programs.here;
  alive = alive_view g s t at going;
}

-- each event has room
pub room_next : (letters : ℕ) (schedule : List ShareLetter) (k programs limit : ℕ) (t next : TasksView) → HasRoom letters schedule k programs limit t →
    is_over_view t ≡ false →
    ((g : Group) (s : SharedMoment) → IsTasksAt g s t → IsTasksAt g (after_share g (share_letter_at schedule k) s) next) →
    HasRoom letters schedule (k + 1) programs limit next
room_next letters schedule k programs limit t next has going timeline = record {
  group = has.group;
  moment = after_share has.group (share_letter_at schedule k) has.moment;
  at = timeline has.group has.moment has.at;
  many = has.many;
  most = has.most;
  room =
      let less = less_left has.group schedule k has.moment (can_go has.group has.moment t has.at going) in
      let room = has.room in
      omega (arith, less, room);
}

-- fewer are made than the most while one isn't over
pub room_left : (letters : ℕ) (schedule : List ShareLetter) (k programs limit : ℕ) (t : TasksView) → HasRoom letters schedule k programs limit t →
    is_over_view t ≡ false → k < most_shared_events letters programs limit
room_left letters schedule k programs limit t has going =
    let less = less_left has.group schedule k has.moment (can_go has.group has.moment t has.at going) in
    let room = has.room in
    let fewer : k < most_shared_events letters has.group.count has.group.limit = omega (arith, less, room) in
    subst (λ (n : ℕ). k < most_shared_events letters n limit) has.many
    (subst (λ (n : ℕ). k < most_shared_events letters has.group.count n) has.most fewer)

pub room_within : (letters : ℕ) (schedule : List ShareLetter) (k programs limit : ℕ) (t : TasksView) → HasRoom letters schedule k programs limit t →
    k ≤ most_shared_events letters programs limit
room_within letters schedule k programs limit t has =
    let room = has.room in
    let most : k ≤ most_shared_events letters has.group.count has.group.limit = omega (arith, room) in
    subst (λ (n : ℕ). k ≤ most_shared_events letters n limit) has.many
    (subst (λ (n : ℕ). k ≤ most_shared_events letters has.group.count n) has.most most)

-- the most are few
few_times : (programs limit : ℕ) → programs ≤ 8 → limit ≤ 1000000 → programs * (8 * limit + 8) ≤ 64000064
few_times programs limit few small = mul-le programs (8 * limit + 8) 8 8000008 few (omega (arith, small))

pub room_few : (letters : ℕ) (schedule : List ShareLetter) (k programs limit : ℕ) (t : TasksView) → HasRoom letters schedule k programs limit t →
    letters ≤ most_letters → most_shared_events letters programs limit ≤ 64065600
room_few letters schedule k programs limit t has few =
    let times = few_times has.group.count has.group.limit has.at.programs.few has.at.programs.small in
    let most : most_shared_events letters has.group.count has.group.limit ≤ 64065600 = omega (arith, times, few) in
    subst (λ (n : ℕ). most_shared_events letters n limit ≤ 64065600) has.many
    (subst (λ (n : ℕ). most_shared_events letters has.group.count n ≤ 64065600) has.most most)
