-- Programs that share a board don't see one another.
use Rattle.std.specs.Prelude.{ℕ, false, List, [], ◌∷◌, ◌++◌, ◌≡◌, ◌==◌}
use Rattle.std.proofs.Common.{refl, sym, ap, subst, ◌∙◌}
use Rattle.std.proofs.lemmas.Bool.{eqb-true}
use Rattle.m88_isa.proofs.Laws.{by_test}
use Rattle.m88_event.specs.Timeline.{Moment, after_letter, is_over, opening_moment}
use Rattle.m88_event.specs.declared.letter.Letter.{Letter}
use Rattle.m88_tasks.specs.Shared.{Group, SharedMoment, after_share, after_turn_letter, moments_then, opening_shared, over_at, own_run, owns_then, turn_letter_at}
use Rattle.m88_tasks.specs.declared.letter.ShareLetter.{ShareLetter}
use Rattle.m88_tasks.specs.declared.letter.ShareLetter.TheVariants as share
use Rattle.m88_tasks.specs.declared.turned.Turned.{Turned}
use Rattle.m88_tasks.specs.declared.turned.Turned.TheVariants as turned

-- the moments of a program alone, along some letters
unfoldable pub along : Group → ℕ → List Letter → Moment → Moment
along g q [] m = m
along g q (letter ∷ letters) m = along g q letters (after_letter (own_run g q) letter m)

-- it was not over before any of them
unfoldable pub IsAliveAlong : Group → ℕ → List Letter → Moment → Type 0
IsAliveAlong g q [] m = Unit {0}
IsAliveAlong g q (letter ∷ letters) m =
    (is_over (own_run g q) m ≡ false) × IsAliveAlong g q letters (after_letter (own_run g q) letter m)

-- each program stands where its own letters lead it alone, and took each before it was over
pub record IsApart (g : Group) (moments : ℕ → Moment) (owns : ℕ → List Letter) : Type 0 where
  pub stands : (q : ℕ) → moments q ≡ along g q (owns q) opening_moment
  pub alive : (q : ℕ) → IsAliveAlong g q (owns q) opening_moment

pub along_last : (g : Group) (q : ℕ) (letters : List Letter) (letter : Letter) (m : Moment) →
    along g q (letters ++ (letter ∷ [])) m ≡ after_letter (own_run g q) letter (along g q letters m)
unfolding along
along_last g q [] letter m = refl
along_last g q (l ∷ letters) letter m = along_last g q letters letter (after_letter (own_run g q) l m)

alive_last : (g : Group) (q : ℕ) (letters : List Letter) (letter : Letter) (m : Moment) → IsAliveAlong g q letters m →
    is_over (own_run g q) (along g q letters m) ≡ false → IsAliveAlong g q (letters ++ (letter ∷ [])) m
unfolding along IsAliveAlong
alive_last g q [] letter m alive goes = (goes, tt)
alive_last g q (l ∷ letters) letter m alive goes =
    (alive.0, alive_last g q letters letter (after_letter (own_run g q) l m) alive.1 goes)

-- at first
pub apart_first : (g : Group) → IsApart g (opening_shared g).moments (opening_shared g).owns
unfolding along IsAliveAlong
apart_first g = record { stands = λ q. refl; alive = λ q. tt }

apart_own : (g : Group) (letter : Letter) (moments : ℕ → Moment) (owns : ℕ → List Letter) (current : ℕ) → IsApart g moments owns →
    over_at g moments current ≡ false → IsApart g (moments_then g letter moments current) (owns_then letter owns current)
apart_own g letter moments owns current apart goes = record {
  stands = λ q. by_test (q == current)
      (λ t. rw t (ap (after_letter (own_run g q) letter) (apart.stands q) ∙ sym (along_last g q (owns q) letter opening_moment)))
      (λ f. rw f (apart.stands q));
  alive = λ q. by_test (q == current)
      (λ t. rw t (alive_last g q (owns q) letter opening_moment (apart.alive q)
      (let same = eqb-true q current t in
      ap (is_over (own_run g q)) (sym (apart.stands q)) ∙ subst (λ n. over_at g moments n ≡ false) (sym same) goes)))
      (λ f. rw f (apart.alive q));
}

-- who runs doesn't matter
apart_turn : (g : Group) (s : SharedMoment) (turned : Turned) → IsApart g s.moments s.owns →
    IsApart g (after_turn_letter turned s).moments (after_turn_letter turned s).owns
apart_turn g s (turned.Own happened) apart = apart
apart_turn g s _ apart = apart

-- after each letter
pub apart_on : (g : Group) (letter : ShareLetter) (s : SharedMoment) → IsApart g s.moments s.owns → over_at g s.moments s.current ≡ false →
    IsApart g (after_share g letter s).moments (after_share g letter s).owns
apart_on g (share.Own letter) s apart goes = apart_own g letter s.moments s.owns s.current apart goes
apart_on g share.Turn s apart goes = apart_turn g s (turn_letter_at g s) apart
