-- What lies behind each moment of the shared timeline.
use Rattle.std.specs.Prelude.{ℕ, Bool, true, false, not, Option, Some, None, ◌≡◌, ◌<◌, ◌≤◌, ◌+◌, ◌==◌, is_none, unwrap_or, if◌then◌else◌}
use Rattle.std.proofs.Common.{arith, refl, sym, ap, subst, ◌∙◌}
use Rattle.m88_isa.proofs.Laws.{by_test, some_from}
use Rattle.m88_event.proofs.Laws.{letter_events}
use Rattle.m88_event.specs.Timeline.{Moment, is_drained, opening_moment}
use Rattle.m88_event.specs.declared.letter.Letter.{Letter}
use Rattle.m88_tasks.proofs.Choosing.{next_within, no_true, over_where_next, settled_lives, settled_within}
use Rattle.m88_tasks.specs.Past.{HasSharedPast}
use Rattle.m88_tasks.specs.Shared.{Group, SharedMoment, after_share, after_turn_letter, all_over, first_alive, is_alone, moments_then, opening_shared, over_at, own_run, pending_in, switch_at, turn_letter_at}
use Rattle.m88_tasks.specs.declared.letter.ShareLetter.{ShareLetter}
use Rattle.m88_tasks.specs.declared.letter.ShareLetter.TheVariants as share
use Rattle.m88_tasks.specs.declared.turned.Turned.{Turned}
use Rattle.m88_tasks.specs.declared.turned.Turned.TheVariants as turned

-- at first
first_lives : (g : Group) (moments : ℕ → Moment) (found : Option ℕ) → first_alive g moments 0 g.count ≡ found →
    over_at g moments (unwrap_or found 0) ≡ true → is_none found ≡ true
first_lives g moments None e over = refl
first_lives g moments (Some k) e over =
    absurd (let passes = (some_from 0 g.count (λ q. not (over_at g moments q)) k e).passes in
    let no : false ≡ true = ap not (sym over) ∙ passes in cc)

pub first_within : (g : Group) (moments : ℕ → Moment) (found : Option ℕ) → first_alive g moments 0 g.count ≡ found → 1 ≤ g.count →
    unwrap_or found 0 < g.count
first_within g moments None e some = some
first_within g moments (Some k) e some =
    let high = (some_from 0 g.count (λ q. not (over_at g moments q)) k e).high in omega (arith, high)

pub past_first : (g : Group) → HasSharedPast g (opening_shared g)
past_first g = record {
  lives = first_lives g (λ q. opening_moment) (first_alive g (λ q. opening_moment) 0 g.count) refl;
  counted = λ q. omega arith;
}

-- after a letter of the program that runs
own_counted : (g : Group) (letter : Letter) (s : SharedMoment) → ((q : ℕ) → (s.moments q).events ≤ s.events) → (q : ℕ) →
    (moments_then g letter s.moments s.current q).events ≤ s.events + 1
own_counted g letter s counted q =
    let before = counted q in
    let one = letter_events (own_run g q) letter (s.moments q) in
    by_test (q == s.current)
    (λ t. rw t (omega (arith, before, one)))
    (λ f. rw f (omega (arith, before)))

-- after the letter `t`
turn_past : (g : Group) (s : SharedMoment) (held alone : Bool) → s.current < g.count → HasSharedPast g s →
    HasSharedPast g (record (after_turn_letter (if held then turned.Held (pending_in g s) else if alone then turned.Alone else turned.Switched (switch_at g s)) s)
    { events = s.events + 1 })
turn_past g s true alone here past = record { lives = past.lives; counted = λ q. let before = past.counted q in omega (arith, before) }
turn_past g s false true here past = record { lives = past.lives; counted = λ q. let before = past.counted q in omega (arith, before) }
turn_past g s false false here past = record {
  lives = over_where_next g s.moments s.current here;
  counted = λ q. let before = past.counted q in omega (arith, before);
}

turn_events : (turned : Turned) (s : SharedMoment) → (after_turn_letter turned s).events ≡ s.events
turn_events (turned.Own happened) s = refl
turn_events _ s = refl

turned_past : (g : Group) (s : SharedMoment) → s.current < g.count → HasSharedPast g s →
    HasSharedPast g (record (after_turn_letter (turn_letter_at g s) s) { events = s.events + 1 })
unfolding turn_letter_at
turned_past g s here past =
    turn_past g s (not (is_drained (g.programs s.current) (s.moments s.current))) (is_alone g s.moments s.current) here past

pub past_then : (g : Group) (letter : ShareLetter) (s : SharedMoment) → s.current < g.count → HasSharedPast g s →
    HasSharedPast g (after_share g letter s)
past_then g (share.Own letter) s here past = record {
  lives = settled_lives g (moments_then g letter s.moments s.current) s.current here;
  counted = own_counted g letter s past.counted;
}
past_then g share.Turn s here past =
    subst (λ (n : ℕ). HasSharedPast g (record (after_turn_letter (turn_letter_at g s) s) { events = n })) (ap (λ (n : ℕ). n + 1) (sym (turn_events (turn_letter_at g s) s)))
    (turned_past g s here past)

-- the program that runs is one of them
turn_within : (g : Group) (s : SharedMoment) (held alone : Bool) → s.current < g.count →
    (after_turn_letter (if held then turned.Held (pending_in g s) else if alone then turned.Alone else turned.Switched (switch_at g s)) s).current < g.count
turn_within g s true alone here = here
turn_within g s false true here = here
turn_within g s false false here = next_within g s.moments s.current here

pub within_then : (g : Group) (letter : ShareLetter) (s : SharedMoment) → s.current < g.count → (after_share g letter s).current < g.count
unfolding turn_letter_at
within_then g (share.Own letter) s here = settled_within g (moments_then g letter s.moments s.current) s.current here
within_then g share.Turn s here =
    turn_within g s (not (is_drained (g.programs s.current) (s.moments s.current))) (is_alone g s.moments s.current) here

-- the program that runs isn't over where one isn't
pub alive_by : (g : Group) (s : SharedMoment) → HasSharedPast g s → all_over g s.moments ≡ false → over_at g s.moments s.current ≡ false
alive_by g s past some = by_test (over_at g s.moments s.current)
    (λ over. absurd (no_true (all_over g s.moments) (past.lives over) some))
    (λ alive. alive)

-- so many events
pub events_then : (g : Group) (letter : ShareLetter) (s : SharedMoment) → (after_share g letter s).events ≡ s.events + 1
events_then g (share.Own letter) s = refl
events_then g share.Turn s = ap (λ (n : ℕ). n + 1) (turn_events (turn_letter_at g s) s)
