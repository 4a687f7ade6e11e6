-- Programs that share a board come to an end: each letter takes something off what is left of them.
use Rattle.std.specs.Prelude.{ℕ, zero, suc, Bool, true, false, not, List, [], ◌≡◌, ◌<◌, ◌≤◌, ◌+◌, ◌*◌, ◌-◌, ◌%◌, ◌==◌, ◌&&◌, is_some, nat_lt, length, if◌then◌else◌}
use Rattle.std.proofs.Common.{arith, refl, sym, ap, subst, ◌∙◌}
use Rattle.std.proofs.lemmas.Bool.Decides.{nat_tests}
use Rattle.std.proofs.lemmas.Bool.{eqb-false, eqb-true, le-ltb, lt-ltb, ltb-false, ltb-true}
use Rattle.std.proofs.lemmas.List.{length-drop}
use Rattle.m88_isa.proofs.Laws.{by_test, twice_at_most}
use Rattle.m88_isa.specs.Held.{is_pending}
use Rattle.m88_isa.specs.History.{transactions}
use Rattle.m88_isa.specs.Machine.{IsProgram, Program}
use Rattle.m88_event.proofs.Laws.{fuel_stays, least_of, lessens, moves_as_seen, one_at_most, same_over}
use Rattle.m88_event.specs.Bound.{fuel, turns_left, weight}
use Rattle.m88_event.specs.Letters.{letter_at}
use Rattle.m88_event.specs.Local.{Local, is_over_by, local_at}
use Rattle.m88_event.specs.Past.{HasPast, IsBehindBranch}
use Rattle.m88_event.specs.Timeline.{DoneWereMade, Moment, Run, after_letter, is_over}
use Rattle.m88_event.specs.declared.letter.Letter.{Letter}
use Rattle.m88_event.specs.declared.letter.Letter.TheVariants.{Issue, Answer}
use Rattle.m88_tasks.proofs.Letters.{behind}
use Rattle.m88_tasks.specs.Letters.{share_letter_at}
use Rattle.m88_tasks.specs.Shared.{Group, SharedMoment, after_share, after_turn_letter, moments_then, over_at, own_run, settled_from, turn_letter_at}
use Rattle.m88_tasks.specs.declared.letter.ShareLetter.{ShareLetter}
use Rattle.m88_tasks.specs.declared.letter.ShareLetter.TheVariants as share
use Rattle.m88_tasks.specs.declared.turned.Turned.{Turned}
use Rattle.m88_tasks.specs.declared.turned.Turned.TheVariants as turned

-- what a program looks like
abbrev pub seen_in : Group → (ℕ → Moment) → ℕ → Local
seen_in g moments q = local_at (own_run g q) (moments q)

-- what is left of a program: nothing where it is over; of the one that runs its weight; of another at most so much
abbrev cost_by : Bool → Bool → ℕ → ℕ → Local → ℕ
cost_by over runs limit k l = if over then 0 else if runs then weight [] limit k l else 2 * fuel limit l + 2

-- inside the schedule, where the letter `t` comes, none counts as the one that runs
abbrev cost : Group → Bool → ℕ → (ℕ → Moment) → ℕ → ℕ → ℕ
cost g inside k moments current q =
    cost_by (over_at g moments q) (not inside && q == current) g.limit k (seen_in g moments q)

-- of all
unfoldable pub total : (ℕ → ℕ) → ℕ → ℕ
total f zero = 0
total f (suc n) = total f n + f n

-- of the letters of the schedule and of all programs, after so many events
unfoldable pub left : Group → List ShareLetter → ℕ → (ℕ → Moment) → ℕ → ℕ
left g schedule k moments current =
    (length schedule - k) + total (cost g (nat_lt k (length schedule)) (k - length schedule) moments current) g.count

no_more : (f h : ℕ → ℕ) (n : ℕ) → ((q : ℕ) → f q ≤ h q) → total f n ≤ total h n
unfolding total
no_more f h zero le = omega arith
no_more f h (suc n) le = let before = no_more f h n le in let here = le n in omega (arith, before, here)

one_less : (f h : ℕ → ℕ) (n c : ℕ) → c < n → ((q : ℕ) → f q ≤ h q) → f c < h c → total f n < total h n
unfolding total
one_less f h zero c inside le less = absurd (omega (arith, inside))
one_less f h (suc n) c inside le less = by_test (c == n)
    (λ t.
    let same = eqb-true c n t in
    let before = no_more f h n le in
    let here : f n < h n = subst (λ k. f k < h k) same less in
    omega (arith, before, here))
    (λ d.
    let other = eqb-false c n d in
    let before = one_less f h n c (omega (arith, inside, other)) le less in
    let here = le n in
    omega (arith, before, here))

two_at_most : (inside answer pending : Bool) → turns_left inside answer pending ≤ 2
two_at_most true answer pending = omega arith
two_at_most false true pending = omega arith
two_at_most false false true = omega arith
two_at_most false false false = omega arith

-- a program costs no more while it runs
runs_less : (limit k : ℕ) (l : Local) → weight [] limit k l ≤ 2 * fuel limit l + 2
unfolding weight
runs_less limit k l =
    let two = two_at_most (nat_lt k 0) ((k - 0) % 2 == 0) (is_pending l.pending) in omega (arith, two)

-- so it costs at most so much, whether it runs or not
at_most : (over runs : Bool) (limit k : ℕ) (l : Local) → cost_by over runs limit k l ≤ 2 * fuel limit l + 2
at_most true runs limit k l = omega arith
at_most false true limit k l = runs_less limit k l
at_most false false limit k l = omega arith

-- no more than inside the schedule
no_more_inside : (was over runs : Bool) (limit k j : ℕ) (l m : Local) → (was ≡ true → over ≡ true) → fuel limit l ≤ fuel limit m →
    cost_by over runs limit k l ≤ cost_by was false limit j m
no_more_inside true true runs limit k j l m h less = omega arith
no_more_inside true false runs limit k j l m h less = absurd (let no : false ≡ true = h refl in cc)
no_more_inside false over runs limit k j l m h less = let most = at_most over runs limit k l in omega (arith, most, less)

-- who runs next costs no more
handed_on : (over runs next : Bool) (limit k : ℕ) (l : Local) → (runs ≡ true → over ≡ true) →
    cost_by over next limit k l ≤ cost_by over runs limit k l
handed_on true runs next limit k l h = omega arith
handed_on false true next limit k l h = absurd (let no : false ≡ true = h refl in cc)
handed_on false false true limit k l h = runs_less limit k l
handed_on false false false limit k l h = omega arith

-- the program that runs can take a letter
pub record CanGo (g : Group) (moments : ℕ → Moment) (current : ℕ) : Type 0 where
  pub program : IsProgram (g.programs current)
  pub within : DoneWereMade (g.programs current) (moments current)
  pub few : (moments current).retired ≤ g.limit
  pub here : current < g.count
  pub alive : over_at g moments current ≡ false

-- a letter of its own: no program has more fuel afterwards, and none that is over isn't
own_fuel : (g : Group) (letter : Letter) (moments : ℕ → Moment) (current : ℕ) → CanGo g moments current → (q : ℕ) →
    fuel g.limit (seen_in g (moments_then g letter moments current) q) ≤ fuel g.limit (seen_in g moments q)
unfolding local_at
own_fuel g letter moments current can q = by_test (q == current)
    (λ t.
    let same = eqb-true q current t in
    let stays = fuel_stays (g.programs current) g.limit letter (seen_in g moments current) can.program can.few in
    let moved = moves_as_seen (own_run g current) letter (moments current) can.program can.within in
    let less : fuel g.limit (local_at (own_run g current) (after_letter (own_run g current) letter (moments current)))
    ≤ fuel g.limit (seen_in g moments current) = subst (λ (m : Local). fuel g.limit m ≤ fuel g.limit (seen_in g moments current)) moved stays in
    rw t (subst (λ n. fuel g.limit (local_at (own_run g n) (after_letter (own_run g n) letter (moments n)))
    ≤ fuel g.limit (seen_in g moments n)) (sym same) less))
    (λ f. rw f (omega arith))

own_over : (g : Group) (letter : Letter) (moments : ℕ → Moment) (current : ℕ) → CanGo g moments current → (q : ℕ) →
    over_at g moments q ≡ true → over_at g (moments_then g letter moments current) q ≡ true
own_over g letter moments current can q over = by_test (q == current)
    (λ t.
    let same = eqb-true q current t in
    let no : true ≡ false = sym over ∙ subst (λ n. over_at g moments n ≡ false) (sym same) can.alive in
    absurd (let no : true ≡ false = no in cc))
    (λ f. rw f over)

-- inside the schedule a letter is taken, and no program costs more
inside_less : (g : Group) (schedule : List ShareLetter) (k : ℕ) (moments later : ℕ → Moment) (current next : ℕ) → k < length schedule →
    ((q : ℕ) → fuel g.limit (seen_in g later q) ≤ fuel g.limit (seen_in g moments q)) →
    ((q : ℕ) → over_at g moments q ≡ true → over_at g later q ≡ true) →
    left g schedule (k + 1) later next < left g schedule k moments current
unfolding left
inside_less g schedule k moments later current next inside fuels overs =
    let rest = no_more
    (cost g (nat_lt (k + 1) (length schedule)) (k + 1 - length schedule) later next)
    (cost g true (k - length schedule) moments current) g.count
    (λ q. no_more_inside (over_at g moments q) (over_at g later q) (not (nat_lt (k + 1) (length schedule)) && q == next) g.limit
    (k + 1 - length schedule) (k - length schedule) (seen_in g later q) (seen_in g moments q) (overs q) (fuels q)) in
    rw (lt-ltb k (length schedule) inside) (omega (arith, rest, inside))

-- behind the schedule its own letter takes something off the program that runs
own_less : (over : Bool) (limit k : ℕ) (l m : Local) → weight [] limit (k + 1) m < weight [] limit k l →
    cost_by over true limit (k + 1) m < weight [] limit k l
own_less true limit k l m h = omega (arith, h)
own_less false limit k l m h = h

rest_same : (over : Bool) (limit k : ℕ) (l : Local) → cost_by over false limit (k + 1) l ≤ cost_by over false limit k l
rest_same true limit k l = omega arith
rest_same false limit k l = omega arith

same_is : (n : ℕ) → (n == n) ≡ true
same_is n = grind (arith, nat_tests)

own_costs : (g : Group) (k : ℕ) (moments : ℕ → Moment) (current : ℕ) → CanGo g moments current →
    total (cost g false (k + 1) (moments_then g (letter_at [] k) moments current) current) g.count < total (cost g false k moments current) g.count
unfolding local_at
own_costs g k moments current can =
    let r : Run = own_run g current in
    let letter : Letter = letter_at [] k in
    let later : ℕ → Moment = moments_then g letter moments current in
    let l : Local = seen_in g moments current in
    let goes : is_over_by g.limit l ≡ false = same_over r (moments current) can.within ∙ can.alive in
    let less = lessens r.program g.limit [] k l can.program can.few goes in
    let moved = moves_as_seen r letter (moments current) can.program can.within in
    let fewer = subst (λ (m : Local). weight [] g.limit (k + 1) m < weight [] g.limit k l) moved less in
    let self = same_is current in
    let here_less : cost g false (k + 1) later current current < cost g false k moments current current =
    rw (self, can.alive) (own_less (is_over r (after_letter r letter (moments current))) g.limit k l
    (local_at r (after_letter r letter (moments current))) fewer) in
    one_less (cost g false (k + 1) later current) (cost g false k moments current) g.count current can.here (λ q. by_test (q == current)
    (λ e. let same = eqb-true q current e in
    subst (λ n. cost g false (k + 1) later current n ≤ cost g false k moments current n) (sym same) (omega (arith, here_less)))
    (λ e. rw e (rest_same (over_at g moments q) g.limit k (seen_in g moments q))))
    here_less

-- and who runs next costs no more
next_costs : (g : Group) (k : ℕ) (moments : ℕ → Moment) (current : ℕ) →
    total (cost g false k moments (settled_from g moments current)) g.count ≤ total (cost g false k moments current) g.count
next_costs g k moments current = by_test (over_at g moments current)
    (λ over. no_more (cost g false k moments (settled_from g moments current)) (cost g false k moments current) g.count
    (λ q. handed_on (over_at g moments q) (q == current) (q == settled_from g moments current) g.limit k (seen_in g moments q)
    (λ t. let same = eqb-true q current t in subst (λ n. over_at g moments n ≡ true) (sym same) over)))
    (λ alive. rw alive (omega arith))

turn_letter : (k : ℕ) (answer : Bool) → (k % 2 == 0) ≡ answer → letter_at [] k ≡ (if answer then Answer else Issue)
unfolding letter_at
turn_letter k answer h = let same : k - 0 ≡ k = omega arith in rw (same, h) refl

outside_letter : (schedule : List ShareLetter) (k : ℕ) → length schedule ≤ k →
    share_letter_at schedule k ≡ share.Own (letter_at [] (k - length schedule))
outside_letter schedule k h =
    behind schedule k ((k - length schedule) % 2 == 0) h refl
    ∙ ap (λ l. share.Own l) (sym (turn_letter (k - length schedule) ((k - length schedule) % 2 == 0) refl))

outside_less : (g : Group) (schedule : List ShareLetter) (k : ℕ) (moments : ℕ → Moment) (current : ℕ) → CanGo g moments current → length schedule ≤ k →
    left g schedule (k + 1) (moments_then g (letter_at [] (k - length schedule)) moments current)
    (settled_from g (moments_then g (letter_at [] (k - length schedule)) moments current) current)
    < left g schedule k moments current
unfolding left
outside_less g schedule k moments current can outside =
    let later : ℕ → Moment = moments_then g (letter_at [] (k - length schedule)) moments current in
    let less = own_costs g (k - length schedule) moments current can in
    let handed = next_costs g (k - length schedule + 1) later current in
    let place : k + 1 - length schedule ≡ k - length schedule + 1 = omega (arith, outside) in
    rw (le-ltb k (length schedule) outside, le-ltb (k + 1) (length schedule) (omega (arith, outside)), place) (omega (arith, less, handed, outside))

-- who runs after a letter `t`
turn_less : (g : Group) (schedule : List ShareLetter) (k : ℕ) (s : SharedMoment) (turned : Turned) → k < length schedule →
    left g schedule (k + 1) (after_turn_letter turned s).moments (after_turn_letter turned s).current < left g schedule k s.moments s.current
turn_less g schedule k s (turned.Switched switch) inside = inside_less g schedule k s.moments s.moments s.current switch.to inside (λ q. omega arith) (λ q h. h)
turn_less g schedule k s _ inside = inside_less g schedule k s.moments s.moments s.current s.current inside (λ q. omega arith) (λ q h. h)

letter_less : (g : Group) (schedule : List ShareLetter) (k : ℕ) (s : SharedMoment) (letter : ShareLetter) → CanGo g s.moments s.current →
    k < length schedule →
    left g schedule (k + 1) (after_share g letter s).moments (after_share g letter s).current < left g schedule k s.moments s.current
letter_less g schedule k s (share.Own letter) can inside =
    inside_less g schedule k s.moments (moments_then g letter s.moments s.current) s.current
    (settled_from g (moments_then g letter s.moments s.current) s.current) inside (own_fuel g letter s.moments s.current can) (own_over g letter s.moments s.current can)
letter_less g schedule k s share.Turn can inside = turn_less g schedule k s (turn_letter_at g s) inside

-- each letter of the run
pub less_left : (g : Group) (schedule : List ShareLetter) (k : ℕ) (s : SharedMoment) → CanGo g s.moments s.current →
    left g schedule (k + 1) (after_share g (share_letter_at schedule k) s).moments (after_share g (share_letter_at schedule k) s).current
    < left g schedule k s.moments s.current
less_left g schedule k s can = by_test (nat_lt k (length schedule))
    (λ inside. letter_less g schedule k s (share_letter_at schedule k) can (ltb-true k (length schedule) inside))
    (λ outside. let h = ltb-false k (length schedule) outside in
    rw (outside_letter schedule k h) (outside_less g schedule k s.moments s.current can h))

-- what all programs cost at first
behind_one : (p : Program) (n : ℕ) → IsBehindBranch p n → 1 ≤ n
behind_one p n h = let last = h.last in omega (arith, last)

most_fuel : (r : Run) (m : Moment) → IsProgram r.program → HasPast r m →
    fuel r.limit (local_at r m) ≤ 4 * r.limit + 1
unfolding fuel local_at
most_fuel r m is past =
    let twice = twice_at_most r.program m.retired is in
    let short = length-drop m.done (transactions r.program m.retired) in
    let bubble = least_of m.bubble m.retired (λ b. behind_one r.program m.retired (past.bubbled b)) in
    let ended = one_at_most (not (is_some (local_at r m).ended)) in
    let within = past.within in
    omega (arith, twice, short, bubble, ended, within)

each_at_most : (f : ℕ → ℕ) (n most : ℕ) → ((q : ℕ) → q < n → f q ≤ most) → total f n ≤ n * most
unfolding total
each_at_most f zero most le = omega arith
each_at_most f (suc n) most le =
    let before = each_at_most f n most (λ q h. le q (omega (arith, h))) in
    let here = le n (omega arith) in
    suc_times n most (total f n) (f n) before here
  where
    suc_times : (n most a b : ℕ) → a ≤ n * most → b ≤ most → a + b ≤ suc n * most
    suc_times n most a b h k = grind arith

pub left_at_first : (g : Group) (schedule : List ShareLetter) (moments : ℕ → Moment) (current : ℕ) →
    ((q : ℕ) → q < g.count → IsProgram (g.programs q) × HasPast (own_run g q) (moments q)) →
    left g schedule 0 moments current ≤ length schedule + g.count * (8 * g.limit + 8)
unfolding left
left_at_first g schedule moments current known =
    let all = each_at_most (cost g (nat_lt 0 (length schedule)) (0 - length schedule) moments current) g.count (8 * g.limit + 8)
    (λ q h.
    let most = at_most (over_at g moments q) (not (nat_lt 0 (length schedule)) && q == current) g.limit (0 - length schedule) (seen_in g moments q) in
    let fuels = most_fuel (own_run g q) (moments q) (known q h).0 (known q h).1 in
    omega (arith, most, fuels)) in
    omega (arith, all)
