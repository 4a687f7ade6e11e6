-- Bytes that may be stored to: their pages are ready and present.
use Rattle.std.specs.Prelude.{ℕ, Bool, true, false, not, List, [], ◌∷◌, ◌++◌, ◌≡◌, ◌==◌, ◌&&◌, ◌||◌}
use Rattle.std.proofs.Common.{arith, eq-eqb, refl, ap, subst, ◌∙◌}
use Rattle.m88_base.specs.Pages.{page_number}
use Rattle.m88_isa.specs.Address.{after_bytes}
use Rattle.m88_emul.specs.Aid.{places_from}
use Rattle.m88_emul.specs.Inside.Places.{AreOpen, IsOpenPage}
use Rattle.m88_emul.specs.Inside.Tasks.{aid_by, stored_places, task_places}
use Rattle.m88_emul.specs.Timeline.{has_place_in}
use Rattle.m88_emul.specs.declared.task.Task.{Task}
use Rattle.m88_emul.specs.declared.task.Task.TheVariants as task

either_first : (a b : Bool) → a ≡ true → (a || b) ≡ true
either_first true b h = refl
either_first false b h = absurd cc

either_last : (a b : Bool) → b ≡ true → (a || b) ≡ true
either_last true b h = refl
either_last false b h = h

-- where each page with one of them is
pub all_open : (ready absent : ℕ → Bool) (places : List ℕ) →
    ((page : ℕ) → has_place_in places page ≡ true → IsOpenPage ready absent page) →
    AreOpen ready absent places
unfolding AreOpen has_place_in
all_open ready absent [] each = tt
all_open ready absent (a ∷ places) each = (
  each (page_number a)
      (either_first (page_number a == page_number a) (has_place_in places (page_number a)) (eq-eqb (page_number a) (page_number a) refl)),
  all_open ready absent places
      (λ page inside. each page (either_last (page_number a == page) (has_place_in places page) inside)),
)

-- those of a double are those of its words
parted : (place : ℕ) → places_from place 8 ≡ places_from place 4 ++ places_from (after_bytes place 4) 4
unfolding places_from
parted place =
    let b : ℕ = after_bytes place 1 in
    let c : ℕ = after_bytes b 1 in
    let d : ℕ = after_bytes c 1 in
    let e : after_bytes d 1 ≡ after_bytes place 4 = omega arith in
    ap (λ (x : ℕ). place ∷ b ∷ c ∷ d ∷ places_from x 4) e

front_open : (ready absent : ℕ → Bool) (xs ys : List ℕ) → AreOpen ready absent (xs ++ ys) → AreOpen ready absent xs
unfolding AreOpen
front_open ready absent [] ys h = tt
front_open ready absent (x ∷ xs) ys h = (h.0, front_open ready absent xs ys h.1)

rest_open : (ready absent : ℕ → Bool) (xs ys : List ℕ) → AreOpen ready absent (xs ++ ys) → AreOpen ready absent ys
unfolding AreOpen
rest_open ready absent [] ys h = h
rest_open ready absent (x ∷ xs) ys h = rest_open ready absent xs ys h.1

pub first_word_open : (ready absent : ℕ → Bool) (place : ℕ) → AreOpen ready absent (places_from place 8) →
    AreOpen ready absent (places_from place 4)
first_word_open ready absent place h =
    front_open ready absent (places_from place 4) (places_from (after_bytes place 4) 4) (subst (AreOpen ready absent) (parted place) h)

pub second_word_open : (ready absent : ℕ → Bool) (place : ℕ) → AreOpen ready absent (places_from place 8) →
    AreOpen ready absent (places_from (after_bytes place 4) 4)
second_word_open ready absent place h =
    rest_open ready absent (places_from place 4) (places_from (after_bytes place 4) 4) (subst (AreOpen ready absent) (parted place) h)

-- what was supplied is present
now_present : (absent touched : Bool) → touched ≡ true → (absent && not touched) ≡ false
now_present true true h = refl
now_present false true h = refl
now_present absent false h = absurd cc

-- those to which a task stores, once they are ready and supplied
open_by : (ready absent before : ℕ → Bool) (places : List ℕ) →
    ((page : ℕ) → has_place_in places page ≡ true → ready page ≡ true) →
    absent ≡ (λ page. before page && not (has_place_in places page)) →
    AreOpen ready absent places
open_by ready absent before places prepared supplied = all_open ready absent places (λ page inside. (
  prepared page inside,
  ap (λ (f : ℕ → Bool). f page) supplied ∙ now_present (before page) (has_place_in places page) inside,
))

pub task_open : (t : Task) (ready absent before : ℕ → Bool) →
    ((page : ℕ) → has_place_in (stored_places t) page ≡ true → ready page ≡ true) →
    absent ≡ (λ page. before page && not (has_place_in (task_places t) page)) →
    AreOpen ready absent (stored_places t)
unfolding AreOpen
task_open (task.StoreHalf value place) ready absent before prepared supplied = open_by ready absent before (places_from place 2) prepared supplied
task_open (task.StoreWord value place) ready absent before prepared supplied = open_by ready absent before (places_from place 4) prepared supplied
task_open (task.StoreDouble value second place) ready absent before prepared supplied =
    open_by ready absent before (places_from place 8) prepared supplied
task_open _ ready absent before prepared supplied = tt

-- the places that a task touches are those of its aid
pub same_places : (t : Task) (memory : ℕ → ℕ) → task_places t ≡ (aid_by t memory).places
same_places (task.Divide d quotient) memory = refl
same_places _ memory = refl
