-- Every walk and every draining comes to an end.
use Rattle.std.specs.Prelude.{ℕ, zero, suc, Bool, true, false, not, List, [], ◌∷◌, ◌++◌, ◌≡◌, ◌⊎◌, ◌<◌, ◌≤◌, ◌+◌, ◌==◌, nat_lt}
use Rattle.std.proofs.Common.{append_assoc, append-nil, arith, inl, inr, refl, sym, ap, ap₂, ◌∙◌, subst}
use Rattle.std.proofs.lemmas.Bool.{eqb-false, eqb-true, ltb-false, ltb-true}
use Rattle.m88_isa.proofs.Laws.{by_test}
use Rattle.m88_isa.specs.Held.{is_pending}
use Rattle.m88_isa.specs.Machine.{IsProgram, Program}
use Rattle.m88_event.proofs.Laws.{answered_lessens, drained_seen, lessens, moves_as_seen, same_over, stays_in_limit, stays_within}
use Rattle.m88_event.specs.Bound.{weight}
use Rattle.m88_event.specs.Letters.{letter_at}
use Rattle.m88_event.specs.Local.{Local, local_at, move}
use Rattle.m88_event.specs.Run.{HasEvents, IsFirst, NotBefore, answered_after, moment_after, moment_along}
use Rattle.m88_event.specs.Timeline.{DoneWereMade, Moment, Run, after_letter, is_drained, is_over, opening_moment}
use Rattle.m88_event.specs.declared.letter.Letter.{Letter}
use Rattle.m88_event.specs.declared.letter.Letter.TheVariants.{Answer}
use Rattle.m88_board.specs.Glances.{glance_at, glances_along}
use Rattle.m88_board.specs.declared.glance.Glance.{Glance}

-- what holds after so many holds for a first time, after no more
first_below : (f : ℕ → Bool) (count : ℕ) → ((n : ℕ) × IsFirst f n) ⊎ NotBefore f count
first_below f zero = inr (λ k h. absurd (omega (arith, h)))
first_below f (suc count) = elim (first_below f count) [
  | inl found ↦ inl found
  | inr none ↦ by_test (f count)
      (λ here. inl (count, record { here = here; first = none }))
      (λ goes. inr (λ k h. by_test (k == count)
      (λ same. rw (eqb-true k count same) goes)
      (λ there. let other = eqb-false k count there in none k (omega (arith, h, other)))))
]

pub first_of : (f : ℕ → Bool) (n : ℕ) → f n ≡ true → (k : ℕ) × IsFirst f k
first_of f n holds = elim (first_below f (suc n)) [
  | inl found ↦ found
  | inr none ↦ absurd (let not_yet = none n (omega arith) in cc)
]

-- what gets lighter until something holds comes to where it does
lighter_within : (f : ℕ → Bool) (w : ℕ → ℕ) → ((k : ℕ) → f k ≡ false → w (suc k) < w k) → (b k : ℕ) → w k < b
    → (n : ℕ) × (f n ≡ true)
lighter_within f w lighter zero k light = absurd (omega (arith, light))
lighter_within f w lighter (suc b) k light = by_test (f k)
    (λ here. (k, here))
    (λ goes. let less = lighter k goes in lighter_within f w lighter b (suc k) (omega (arith, light, less)))

comes_to : (f : ℕ → Bool) (w : ℕ → ℕ) → ((k : ℕ) → f k ≡ false → w (suc k) < w k) → (n : ℕ) × (f n ≡ true)
comes_to f w lighter = lighter_within f w lighter (suc (w 0)) 0 (omega arith)

-- events before which a condition didn't hold are no more than those after which it holds
pub no_later : (f : ℕ → Bool) (k n : ℕ) → NotBefore f k → f n ≡ true → k ≤ n
no_later f k n before here = by_test (nat_lt n k)
    (λ less. absurd (let goes = before n (ltb-true n k less) in cc))
    (λ more. ltb-false n k more)

-- a moment of a board: what was done was made, and no more is retired than the limit
abbrev pub IsSound : Run → Moment → Type 0
IsSound r m = DoneWereMade r.program m × (m.retired ≤ r.limit)

seen_retired : (r : Run) (m : Moment) → (local_at r m).retired ≡ m.retired
unfolding local_at
seen_retired r m = refl

module _ (r : Run) (is : IsProgram r.program) where
  sound_next : (letter : Letter) (m : Moment) → IsSound r m → IsSound r (after_letter r letter m)
  sound_next letter m sound =
      let moved = moves_as_seen r letter m is sound.0 in
      let within = stays_in_limit r.program r.limit letter (local_at r m) is
      (subst (λ n. n ≤ r.limit) (sym (seen_retired r m)) sound.1) in (
        stays_within r letter m sound.0,
        subst (λ n. n ≤ r.limit) (seen_retired r (after_letter r letter m)) (subst (λ (l : Local). l.retired ≤ r.limit) moved within),
      )

  pub sound_along : (letters : ℕ → Letter) (m : Moment) (k : ℕ) → IsSound r m → IsSound r (moment_along r letters m k)
  unfolding moment_along
  sound_along letters m zero sound = sound
  sound_along letters m (suc k) sound = sound_next (letters k) (moment_along r letters m k) (sound_along letters m k sound)

  -- what is seen after one more
  next_seen : (letters : ℕ → Letter) (m : Moment) (k : ℕ) → IsSound r m
      → move r.program r.limit (letters k) (local_at r (moment_along r letters m k)) ≡ local_at r (moment_along r letters m (suc k))
  unfolding moment_along
  next_seen letters m k sound =
      moves_as_seen r (letters k) (moment_along r letters m k) is (sound_along letters m k sound).0

  module _ (taken : ℕ) (m : Moment) (sound : IsSound r m) where
    -- along the letters of a run each event lessens the weight
    pub walk_ends : (letters : ℕ → Letter) → ((k : ℕ) → letters k ≡ letter_at r.schedule (taken + k))
        → (n : ℕ) × (is_over r (moment_along r letters m n) ≡ true)
    walk_ends letters are =
        let at = moment_along r letters m in
        comes_to (λ k. is_over r (at k)) (λ k. weight r.schedule r.limit (taken + k) (local_at r (at k))) (λ k goes.
        let here = sound_along letters m k sound in
        let less = lessens r.program r.limit r.schedule (taken + k) (local_at r (at k)) is
        (subst (λ n. n ≤ r.limit) (sym (seen_retired r (at k))) here.1) (same_over r (at k) here.0 ∙ goes) in
        let next : move r.program r.limit (letter_at r.schedule (taken + k)) (local_at r (at k)) ≡ local_at r (at (suc k)) =
        ap (λ letter. move r.program r.limit letter (local_at r (at k))) (sym (are k)) ∙ next_seen letters m k sound in
        let place : taken + k + 1 ≡ taken + suc k = omega arith in
        let same = ap₂ (weight r.schedule r.limit) place next in
        omega (arith, less, same))

    -- and so does each answer while something is pending
    pub draining_ends : (n : ℕ) × (is_drained r.program (answered_after r m n) ≡ true)
    draining_ends =
        let at = answered_after r m in
        comes_to (λ k. is_drained r.program (at k)) (λ k. weight r.schedule r.limit taken (local_at r (at k))) (λ k goes.
        by_test (is_pending (local_at r (at k)).pending)
        (λ some.
        let less = answered_lessens r.program r.limit r.schedule taken (local_at r (at k)) some in
        let same = ap (weight r.schedule r.limit taken) (next_seen (λ j. Answer) m k sound) in
        omega (arith, less, same))
        (λ none.
        let seen = drained_seen r (at k) (sound_along (λ j. Answer) m k sound).0 in
        let drained : is_drained r.program (at k) ≡ true = sym seen ∙ ap not none in absurd cc))

-- the glances of more moments go on from those of fewer
pub glances_go_on : (p : Program) (moments : ℕ → Moment) (k n : ℕ) → k ≤ n
    → (others : List Glance) × (glances_along p moments k ++ others ≡ glances_along p moments n)
unfolding glances_along
glances_go_on p moments k zero low =
    let none : k ≡ 0 = omega (arith, low) in ([], append-nil (glances_along p moments k) ∙ ap (glances_along p moments) none)
glances_go_on p moments k (suc n) low = by_test (k == suc n)
    (λ same. ([], append-nil (glances_along p moments k) ∙ ap (glances_along p moments) (eqb-true k (suc n) same)))
    (λ less.
    let other = eqb-false k (suc n) less in
    let before = glances_go_on p moments k n (omega (arith, low, other)) in
    let last = glance_at p (moments (suc n)) ∷ [] in
    (before.0 ++ last, sym (append_assoc (glances_along p moments k) before.0 last) ∙ ap (λ glances. glances ++ last) before.1))

-- every run has its events
pub opens_sound : (r : Run) → IsSound r opening_moment
opens_sound r = (omega arith, omega arith)

pub has_run : (r : Run) → IsProgram r.program → (n : ℕ) × HasEvents r n
has_run r is =
    let over = walk_ends r is 0 opening_moment (opens_sound r) (letter_at r.schedule)
    (λ k. let same : k ≡ 0 + k = omega arith in ap (letter_at r.schedule) same) in
    first_of (λ k. is_over r (moment_after r k)) over.0 over.1
