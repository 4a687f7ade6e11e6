-- So many instructions of a handler, one after the other.
use Rattle.std.specs.Prelude.{ℕ, zero, suc, ◌≡◌, ◌≢◌, ◌+◌}
use Rattle.std.proofs.Common.{refl, sym, ap, add-one, ◌∙◌}
use Rattle.m88_isa.specs.Machine.{Program}
use Rattle.m88_handler.specs.Machine.{Handling, done_behind, done_next, handled_by}
use Rattle.m88_handler.specs.declared.cause.Cause.TheVariants.{Steps}
use Rattle.m88_handler.specs.declared.cause.Course.{Course}
use Rattle.m88_handler.specs.declared.cause.Course.TheVariants.{GoesOn, Stops, Returns, Fails}

-- one of them and then the others
one_more : (s : Program) (n : ℕ) (h : Handling) → handled_by s (n + 1) h ≡ done_behind s n (done_next s h)
unfolding done_behind
one_more s n h = rw add-one refl

pub goes_on : (s : Program) (n m : ℕ) (h new : Handling) → n ≡ m + 1 → (GoesOn, new) ≡ done_next s h
    → handled_by s m new ≡ handled_by s n h
goes_on s n m h new e came =
    ap (done_behind s m) came ∙ sym (ap (λ (k : ℕ). handled_by s k h) e ∙ one_more s m h)

-- what doesn't go on stays
stays : (s : Program) (n : ℕ) (course : Course) (h : Handling) → course ≢ GoesOn → done_behind s n (course, h) ≡ (course, h)
unfolding done_behind
stays s zero GoesOn h ends = absurd (ends refl)
stays s (suc n) GoesOn h ends = absurd (ends refl)
stays s zero Stops h ends = refl
stays s (suc n) Stops h ends = refl
stays s zero Returns h ends = refl
stays s (suc n) Returns h ends = refl
stays s zero (Fails cause) h ends = refl
stays s (suc n) (Fails cause) h ends = refl

pub ends : (s : Program) (n m : ℕ) (h new : Handling) (course : Course) → n ≡ m + 1 → (course, new) ≡ done_next s h → course ≢ GoesOn
    → (course, new) ≡ handled_by s n h
ends s n m h new course e came other =
    sym (ap (λ (k : ℕ). handled_by s k h) e ∙ one_more s m h ∙ ap (done_behind s m) (sym came) ∙ stays s m course new other)

-- none is left
pub spent : (s : Program) (n : ℕ) (h : Handling) → n ≡ 0 → (Fails Steps, h) ≡ handled_by s n h
unfolding done_behind
spent s n h e = sym (ap (λ (k : ℕ). handled_by s k h) e)
