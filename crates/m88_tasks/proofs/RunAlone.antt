-- A program that shares a board comes to what it comes to alone, under its own letters.
use Rattle.std.specs.Prelude.{ℕ, zero, suc, true, false, List, [], ◌∷◌, ◌++◌, Some, ◌≡◌, ◌<◌, ◌≤◌, ◌-◌, length, slice_get, take, unwrap_or}
use Rattle.std.proofs.Common.{arith, refl, sym, ap, ◌∙◌}
use Rattle.std.proofs.lemmas.List.{take_all}
use Rattle.m88_event.specs.Letters.{in_turn, letter_at}
use Rattle.m88_event.specs.Run.{IsOutcome, moment_after, moment_along, outcome_at}
use Rattle.m88_event.specs.Timeline.{Moment, Run, after_letter, is_over, opening_moment, run_with, situation_at}
use Rattle.m88_event.specs.declared.letter.Letter.{Letter}
use Rattle.m88_tasks.proofs.Isolation.{IsAliveAlong, IsApart, along, along_last}
use Rattle.m88_tasks.specs.Shared.{Group, over_at, own_run}

-- one letter more
record IsNext (xs : List Letter) (k : ℕ) : Type 0 where
  letter : Letter
  here : slice_get xs k ≡ Some letter
  more : take (suc k) xs ≡ take k xs ++ (letter ∷ [])

next_of : (xs : List Letter) (k : ℕ) → k < length xs → IsNext xs k
next_of [] k h = absurd (omega (arith, h))
next_of (x ∷ xs) zero h = record { letter = x; here = refl; more = refl }
next_of (x ∷ xs) (suc k) h =
    let next = next_of xs k (omega (arith, h)) in
    record { letter = next.letter; here = next.here; more = ap (λ ys. x ∷ ys) next.more }

letter_here : (xs : List Letter) (k : ℕ) (letter : Letter) → slice_get xs k ≡ Some letter → letter_at xs k ≡ letter
unfolding letter_at
letter_here xs k letter h = ap (λ o. unwrap_or o (in_turn (k - length xs))) h

-- its own run, with some letters
abbrev pub lettered : Group → ℕ → List Letter → Run
lettered g q xs = run_with (g.programs q) g.absent g.limit xs

-- a run inside its schedule
run_along : (g : Group) (q : ℕ) (xs : List Letter) (k : ℕ) → k ≤ length xs →
    moment_after (lettered g q xs) k ≡ along g q (take k xs) opening_moment
unfolding moment_along along after_letter situation_at
run_along g q xs zero h = refl
run_along g q xs (suc k) h =
    let next = next_of xs k (omega (arith, h)) in
    ap (λ l. after_letter (own_run g q) l (moment_after (lettered g q xs) k)) (letter_here xs k next.letter next.here)
    ∙ ap (after_letter (own_run g q) next.letter) (run_along g q xs k (omega (arith, h)))
    ∙ sym (along_last g q (take k xs) next.letter opening_moment)
    ∙ ap (λ ys. along g q ys opening_moment) (sym next.more)

alive_before : (g : Group) (q : ℕ) (xs : List Letter) (m : Moment) (k : ℕ) → IsAliveAlong g q xs m → k < length xs →
    is_over (own_run g q) (along g q (take k xs) m) ≡ false
unfolding along IsAliveAlong
alive_before g q [] m k alive h = absurd (omega (arith, h))
alive_before g q (x ∷ xs) m zero alive h = alive.0
alive_before g q (x ∷ xs) m (suc k) alive h = alive_before g q xs (after_letter (own_run g q) x m) k alive.1 (omega (arith, h))

-- its own run is over after its own letters, and there
pub own_outcome : (g : Group) (moments : ℕ → Moment) (owns : ℕ → List Letter) (q : ℕ) → IsApart g moments owns → over_at g moments q ≡ true →
    IsOutcome (lettered g q (owns q)) (outcome_at (g.programs q) (moments q))
own_outcome g moments owns q apart over =
    let xs : List Letter = owns q in
    let all = run_along g q xs (length xs) (omega arith) ∙ ap (λ ys. along g q ys opening_moment) (take_all (length xs) xs (omega arith)) in
    record {
      events = length xs;
      run = record {
        here = ap (is_over (own_run g q)) (all ∙ sym (apart.stands q)) ∙ over;
        first = λ k h. ap (is_over (own_run g q)) (run_along g q xs k (omega (arith, h))) ∙ alive_before g q xs opening_moment k (apart.alive q) h;
      };
      value = ap (outcome_at (g.programs q)) (apart.stands q ∙ sym all);
    }
