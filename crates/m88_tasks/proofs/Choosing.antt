-- The program that runs isn't over as long as one isn't.
use Rattle.std.specs.Prelude.{ℕ, zero, suc, Bool, true, false, not, Option, Some, None, ◌≡◌, ◌≢◌, ◌<◌, ◌≤◌, ◌+◌, ◌-◌, ◌==◌, ◌||◌, is_none, nat_lt}
use Rattle.std.proofs.Common.{arith, refl, sym, ap, subst, ◌∙◌}
use Rattle.std.proofs.lemmas.Bool.Decides.{nat_tests}
use Rattle.std.proofs.lemmas.Bool.{eqb-false, eqb-true, ltb-false, ltb-true}
use Rattle.m88_isa.proofs.Laws.{by_test, none_from, some_from}
use Rattle.m88_isa.specs.Held.{first_from}
use Rattle.m88_event.specs.Timeline.{Moment}
use Rattle.m88_tasks.specs.Shared.{Group, all_over, first_alive, is_alone, next_from, found_next, over_at, settled_from}

not_over : (over : Bool) → not over ≡ true → over ≡ false
not_over true h = absurd cc
not_over false h = refl

is_over_then : (over : Bool) → not over ≡ false → over ≡ true
is_over_then true h = refl
is_over_then false h = absurd cc

none_is : (o : Option ℕ) → is_none o ≡ true → o ≡ None
none_is None h = refl
none_is (Some k) h = absurd cc

some_is : (o : Option ℕ) → is_none o ≡ false → (k : ℕ) × (o ≡ Some k)
some_is None h = absurd cc
some_is (Some k) h = (k, refl)

is_none_of : (o : Option ℕ) → o ≡ None → is_none o ≡ true
is_none_of o h = ap is_none h

pub no_true : (b : Bool) → b ≡ true → b ≡ false → ⊥
no_true b t f = absurd (let no : true ≡ false = sym t ∙ f in cc)

-- where none passes of so many from the first on, the least that passes is none
pub none_below : (from many : ℕ) (test : ℕ → Bool) → ((k : ℕ) → from ≤ k → k < from + many → test k ≡ false) → first_from from many test ≡ None
unfolding first_from
none_below from zero test h = refl
none_below from (suc many) test h =
    rw (h from (omega arith) (omega arith))
    (none_below (from + 1) many test (λ k low high. h k (omega (arith, low)) (omega (arith, high))))

-- all are over exactly where each is
pub each_over : (g : Group) (moments : ℕ → Moment) (q : ℕ) → all_over g moments ≡ true → q < g.count → over_at g moments q ≡ true
each_over g moments q h inside =
    is_over_then (over_at g moments q)
    (none_from 0 g.count (λ k. not (over_at g moments k)) q (none_is (first_alive g moments 0 g.count) h) (omega arith) (omega (arith, inside)))

pub all_where_each : (g : Group) (moments : ℕ → Moment) → ((q : ℕ) → q < g.count → over_at g moments q ≡ true) → all_over g moments ≡ true
all_where_each g moments h =
    is_none_of (first_alive g moments 0 g.count)
    (none_below 0 g.count (λ q. not (over_at g moments q)) (λ k low high. ap not (h k (omega (arith, high)))))

found : (g : Group) (moments : ℕ → Moment) (current q : ℕ) (behind before : Option ℕ) →
    first_alive g moments (current + 1) (g.count - (current + 1)) ≡ behind → first_alive g moments 0 (current + 1) ≡ before →
    current < g.count → q < g.count → over_at g moments q ≡ false → over_at g moments (found_next behind before current) ≡ false
found g moments current q (Some k) before eb ef here inside alive =
    not_over (over_at g moments k) (some_from (current + 1) (g.count - (current + 1)) (λ q. not (over_at g moments q)) k eb).passes
found g moments current q None (Some k) eb ef here inside alive =
    not_over (over_at g moments k) (some_from 0 (current + 1) (λ q. not (over_at g moments q)) k ef).passes
found g moments current q None None eb ef here inside alive = by_test (nat_lt q (current + 1))
    (λ low.
    let below = ltb-true q (current + 1) low in
    let none = none_from 0 (current + 1) (λ q. not (over_at g moments q)) q ef (omega arith) (omega (arith, below)) in
    absurd (no_true (over_at g moments q) (is_over_then (over_at g moments q) none) alive))
    (λ high.
    let above = ltb-false q (current + 1) high in
    let none = none_from (current + 1) (g.count - (current + 1)) (λ q. not (over_at g moments q)) q eb (omega (arith, above)) (omega (arith, here, inside, above)) in
    absurd (no_true (over_at g moments q) (is_over_then (over_at g moments q) none) alive))

next_lives : (g : Group) (moments : ℕ → Moment) (current q : ℕ) → current < g.count → q < g.count → over_at g moments q ≡ false →
    over_at g moments (next_from g moments current) ≡ false
unfolding next_from
next_lives g moments current q here inside alive = found g moments current q _ _ refl refl here inside alive

-- the next is one of them
within : (g : Group) (moments : ℕ → Moment) (current : ℕ) (behind before : Option ℕ) →
    first_alive g moments (current + 1) (g.count - (current + 1)) ≡ behind → first_alive g moments 0 (current + 1) ≡ before →
    current < g.count → found_next behind before current < g.count
within g moments current (Some k) before eb ef here =
    let high = (some_from (current + 1) (g.count - (current + 1)) (λ q. not (over_at g moments q)) k eb).high in omega (arith, high, here)
within g moments current None (Some k) eb ef here =
    let high = (some_from 0 (current + 1) (λ q. not (over_at g moments q)) k ef).high in omega (arith, high, here)
within g moments current None None eb ef here = here

pub next_within : (g : Group) (moments : ℕ → Moment) (current : ℕ) → current < g.count → next_from g moments current < g.count
unfolding next_from
next_within g moments current here = within g moments current _ _ refl refl here

-- where the next is over, all are
pub over_where_next : (g : Group) (moments : ℕ → Moment) (current : ℕ) → current < g.count →
    over_at g moments (next_from g moments current) ≡ true → all_over g moments ≡ true
over_where_next g moments current here over =
    all_where_each g moments (λ q inside. by_test (over_at g moments q) (λ t. t)
    (λ f. absurd (no_true (over_at g moments (next_from g moments current)) over (next_lives g moments current q here inside f))))

pub settled_within : (g : Group) (moments : ℕ → Moment) (current : ℕ) → current < g.count → settled_from g moments current < g.count
settled_within g moments current here = by_test (over_at g moments current)
    (λ t. rw t (next_within g moments current here))
    (λ f. rw f here)

pub settled_lives : (g : Group) (moments : ℕ → Moment) (current : ℕ) → current < g.count →
    over_at g moments (settled_from g moments current) ≡ true → all_over g moments ≡ true
settled_lives g moments current here = by_test (over_at g moments current)
    (λ t. rw t (over_where_next g moments current here))
    (λ f. rw f (λ over. absurd (no_true (over_at g moments current) over f)))

-- one that isn't over is alone exactly where the next is that one again
either_false : (a b : Bool) → (a || b) ≡ false → b ≡ false
either_false true b h = absurd cc
either_false false b h = h

either_first : (a b : Bool) → (a || b) ≡ false → a ≡ false
either_first true b h = absurd cc
either_first false b h = refl

same_is : (n : ℕ) → (n == n) ≡ true
same_is n = grind (arith, nat_tests)

next_alone : (g : Group) (moments : ℕ → Moment) (current : ℕ) (behind before : Option ℕ) →
    first_alive g moments (current + 1) (g.count - (current + 1)) ≡ behind → first_alive g moments 0 (current + 1) ≡ before →
    current < g.count → is_alone g moments current ≡ true → found_next behind before current ≡ current
next_alone g moments current (Some k) before eb ef here alone =
    let is = some_from (current + 1) (g.count - (current + 1)) (λ q. not (over_at g moments q)) k eb in
    let low = is.low in
    let high = is.high in
    let none = none_from 0 g.count (λ q. not (q == current || over_at g moments q)) k (none_is _ alone) (omega arith) (omega (arith, high, here)) in
    by_test (k == current) (λ t. eqb-true k current t)
    (λ f. let over : over_at g moments k ≡ true = rw f at (is_over_then (k == current || over_at g moments k) none) in
    absurd (no_true (over_at g moments k) over (not_over (over_at g moments k) is.passes)))
next_alone g moments current None (Some k) eb ef here alone =
    let is = some_from 0 (current + 1) (λ q. not (over_at g moments q)) k ef in
    let high = is.high in
    let none = none_from 0 g.count (λ q. not (q == current || over_at g moments q)) k (none_is _ alone) (omega arith) (omega (arith, high, here)) in
    by_test (k == current) (λ t. eqb-true k current t)
    (λ f. let over : over_at g moments k ≡ true = rw f at (is_over_then (k == current || over_at g moments k) none) in
    absurd (no_true (over_at g moments k) over (not_over (over_at g moments k) is.passes)))
next_alone g moments current None None eb ef here alone = refl

pub alone_stays : (g : Group) (moments : ℕ → Moment) (current : ℕ) → current < g.count → is_alone g moments current ≡ true →
    next_from g moments current ≡ current
unfolding next_from
alone_stays g moments current here alone = next_alone g moments current _ _ refl refl here alone

-- the first that passes isn't behind one that does
no_later : (from many k q : ℕ) (test : ℕ → Bool) → first_from from many test ≡ Some k → from ≤ q → q < from + many → test q ≡ true → k ≤ q
unfolding first_from
no_later from zero k q test h low high passes = absurd (omega (arith, low, high))
no_later from (suc many) k q test h low high passes = by_test (test from)
    (λ t. let here : from ≡ k = let found = rw t at h in cc in omega (arith, here, low))
    (λ f. by_test (q == from)
    (λ t. absurd (no_true (test q) passes (subst (λ n. test n ≡ false) (sym (eqb-true q from t)) f)))
    (λ d. let other : q ≢ from = eqb-false q from d in
    no_later (from + 1) many k q test (rw f at h) (omega (arith, low, other)) (omega (arith, high)) passes))

-- another that isn't over is next before the one that runs comes again
next_other : (g : Group) (moments : ℕ → Moment) (current q : ℕ) (behind before : Option ℕ) →
    first_alive g moments (current + 1) (g.count - (current + 1)) ≡ behind → first_alive g moments 0 (current + 1) ≡ before →
    current < g.count → q < g.count → q ≢ current → over_at g moments q ≡ false → found_next behind before current ≢ current
next_other g moments current q (Some k) before eb ef here inside other alive =
    λ same. let low = (some_from (current + 1) (g.count - (current + 1)) (λ q. not (over_at g moments q)) k eb).low in
    let same : k ≡ current = same in absurd (omega (arith, low, same))
next_other g moments current q None (Some k) eb ef here inside other alive = λ same.
    let same : k ≡ current = same in
    by_test (nat_lt q (current + 1))
    (λ low.
    let below = ltb-true q (current + 1) low in
    let least = no_later 0 (current + 1) k q (λ q. not (over_at g moments q)) ef (omega arith) (omega (arith, below)) (ap not alive) in
    absurd (omega (arith, least, same, below, other)))
    (λ high.
    let above = ltb-false q (current + 1) high in
    let none = none_from (current + 1) (g.count - (current + 1)) (λ q. not (over_at g moments q)) q eb (omega (arith, above)) (omega (arith, here, inside, above)) in
    absurd (no_true (over_at g moments q) (is_over_then (over_at g moments q) none) alive))
next_other g moments current q None None eb ef here inside other alive = λ same. by_test (nat_lt q (current + 1))
    (λ low.
    let below = ltb-true q (current + 1) low in
    let none = none_from 0 (current + 1) (λ q. not (over_at g moments q)) q ef (omega arith) (omega (arith, below)) in
    absurd (no_true (over_at g moments q) (is_over_then (over_at g moments q) none) alive))
    (λ high.
    let above = ltb-false q (current + 1) high in
    let none = none_from (current + 1) (g.count - (current + 1)) (λ q. not (over_at g moments q)) q eb (omega (arith, above)) (omega (arith, here, inside, above)) in
    absurd (no_true (over_at g moments q) (is_over_then (over_at g moments q) none) alive))

pub others_next : (g : Group) (moments : ℕ → Moment) (current : ℕ) → current < g.count → is_alone g moments current ≡ false →
    next_from g moments current ≢ current
unfolding next_from
others_next g moments current here some =
    let other = some_is (first_from 0 g.count (λ q. not (q == current || over_at g moments q))) some in
    let is = some_from 0 g.count (λ q. not (q == current || over_at g moments q)) other.0 other.1 in
    let high = is.high in
    let apart = not_over (other.0 == current || over_at g moments other.0) is.passes in
    next_other g moments current other.0 _ _ refl refl here (omega (arith, high))
    (eqb-false other.0 current (either_first (other.0 == current) (over_at g moments other.0) apart))
    (either_false (other.0 == current) (over_at g moments other.0) apart)
