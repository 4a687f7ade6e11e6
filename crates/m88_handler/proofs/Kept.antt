-- An entry is kept exactly where what is compared is the same.
use Rattle.std.specs.Prelude.{ℕ, Bool, true, false, not, Option, Some, None, ◌≡◌, ◌↔◌, ◌*◌, ◌^◌, ◌==◌, option_map, slice_index}
use Rattle.std.specs.Option.{option_or}
use Rattle.std.proofs.Common.{arith, refl, ap, eq-eqb}
use Rattle.std.proofs.lemmas.Bool.{eqb-true}
use Rattle.m88_base.specs.Pages.{page_count}
use Rattle.m88_isa.proofs.Laws.{by_test, none_from}
use Rattle.m88_monitor.specs.Serving.{Serving, after_service}
use Rattle.m88_handler.proofs.Searching.{none_in}
use Rattle.m88_handler.specs.Entering.{Faulted, return_fault, serving_of_fault}
use Rattle.m88_handler.specs.Judging.{AreAlike, LeavesAlike, difference, difference_at, following_seen, judged, left_by, next_seen, page_difference, page_differs, register_difference, register_differs, remark_of, return_remark, word_difference, word_differs}
use Rattle.m88_handler.specs.Machine.{Handling, presence}
use Rattle.m88_handler.specs.declared.cause.Cause.{Cause}
use Rattle.m88_handler.specs.declared.cause.Course.{Course}
use Rattle.m88_handler.specs.declared.cause.Course.TheVariants as course
use Rattle.m88_handler.specs.declared.judging.Difference.{Difference}
use Rattle.m88_handler.specs.declared.judging.Place.{Place}
use Rattle.m88_handler.specs.declared.remark.Remark.TheVariants.{Kept}

-- of two none is there
both_none : {A : Type 0} (a b : Option A) → option_or a b ≡ None → (a ≡ None) × (b ≡ None)
both_none None b e = (refl, e)
both_none (Some x) b e = absurd cc

or_none : {A : Type 0} (a b : Option A) → a ≡ None → b ≡ None → option_or a b ≡ None
or_none None b e f = f
or_none (Some x) b e f = absurd cc

-- nothing is made of nothing alone
unmapped : {A B : Type 0} (f : A → B) (a : Option A) → option_map f a ≡ None → a ≡ None
unmapped f None e = refl
unmapped f (Some x) e = absurd cc

-- numbers that don't differ are the same
same_of : (a b : ℕ) → not (a == b) ≡ false → a ≡ b
same_of a b e = by_test (a == b) (λ same. eqb-true a b same) (λ other. absurd (let no : not false ≡ false = rw other at e in cc))

differs_not : (a b : ℕ) → a ≡ b → not (a == b) ≡ false
differs_not a b e = ap not (eq-eqb a b e)

-- and so are marks that are shown alike
same_mark : (a b : Bool) → presence a ≡ presence b → a ≡ b
same_mark true true e = refl
same_mark false false e = refl
same_mark true false e = absurd cc
same_mark false true e = absurd cc

-- no difference at a place
same_at : (place : Place) (a b : ℕ) → difference_at place a b ≡ None → a ≡ b
same_at place a b e = by_test (a == b) (λ same. eqb-true a b same)
    (λ other. absurd (let no = rw other at e in cc))

none_at : (place : Place) (a b : ℕ) → a ≡ b → difference_at place a b ≡ None
none_at place a b e = rw (eq-eqb a b e) refl

alike : (left wanted : Serving) → difference left wanted ≡ None → AreAlike left wanted
unfolding difference
alike left wanted e =
    let registers = both_none (register_difference left.numbers wanted.numbers) _ e in
    let words = both_none (word_difference left.bus wanted.bus) _ registers.1 in
    let pages = both_none (page_difference left.absent wanted.absent) _ words.1 in
    let status = both_none _ _ pages.1 in
    let next = both_none _ _ status.1 in
    record {
      registers = λ r low high.
          same_of (slice_index left.numbers r) (slice_index wanted.numbers r)
          (none_from 1 31 (register_differs left.numbers wanted.numbers) r (unmapped _ _ registers.0) low (omega (arith, high)));
      words = λ place high.
          same_of (left.bus (4 * place)) (wanted.bus (4 * place))
          (none_from 0 (2 ^ 30) (word_differs left.bus wanted.bus) place (unmapped _ _ words.0) (omega arith) (omega (arith, high)));
      pages = λ page high.
          same_mark (left.absent page) (wanted.absent page)
          (same_of (presence (left.absent page)) (presence (wanted.absent page))
          (none_from 0 page_count (page_differs left.absent wanted.absent) page (unmapped _ _ pages.0) (omega arith) (omega (arith, high))));
      status = same_at _ left.control.epsr wanted.control.epsr status.0;
      next = same_at _ (next_seen left.control) (next_seen wanted.control) next.0;
      following = same_at _ (following_seen left.control) (following_seen wanted.control) next.1;
    }

no_difference : (left wanted : Serving) → AreAlike left wanted → difference left wanted ≡ None
unfolding difference
no_difference left wanted h =
    or_none _ _ (ap (option_map _) (none_in 1 31 (register_differs left.numbers wanted.numbers)
    (λ r low high. differs_not (slice_index left.numbers r) (slice_index wanted.numbers r) (h.registers r low (omega (arith, high))))))
    (or_none _ _ (ap (option_map _) (none_in 0 (2 ^ 30) (word_differs left.bus wanted.bus)
    (λ place low high. differs_not (left.bus (4 * place)) (wanted.bus (4 * place)) (h.words place (omega (arith, high))))))
    (or_none _ _ (ap (option_map _) (none_in 0 page_count (page_differs left.absent wanted.absent)
    (λ page low high. differs_not (presence (left.absent page)) (presence (wanted.absent page))
    (ap presence (h.pages page (omega (arith, high)))))))
    (or_none _ _ (none_at _ left.control.epsr wanted.control.epsr h.status)
    (or_none _ _ (none_at _ (next_seen left.control) (next_seen wanted.control) h.next)
    (none_at _ (following_seen left.control) (following_seen wanted.control) h.following)))))

-- a return that is kept
kept_by : (d : Option Difference) → remark_of d ≡ Kept → d ≡ None
kept_by None e = refl
kept_by (Some d) e = absurd cc

returned_kept : (cause : Option Cause) (h : Handling) (wanted : Serving) → return_remark cause h wanted ≡ Kept
    → (cause ≡ None) × AreAlike (left_by h) wanted
returned_kept (Some cause) h wanted e = absurd cc
returned_kept None h wanted e = (refl, alike (left_by h) wanted (kept_by (difference (left_by h) wanted) e))

kept_return : (cause : Option Cause) (h : Handling) (wanted : Serving) → cause ≡ None → AreAlike (left_by h) wanted
    → return_remark cause h wanted ≡ Kept
kept_return (Some cause) h wanted none same = absurd cc
kept_return None h wanted none same = ap remark_of (no_difference (left_by h) wanted same)

leaves : (came : Course) (h : Handling) (f : Faulted) → judged (came, h) f ≡ Kept → LeavesAlike (came, h) f
leaves course.Returns h f e =
    let both = returned_kept (return_fault h.control) h (after_service (serving_of_fault f)) e in
    record { returns = refl; sound = both.0; alike = both.1 }
leaves course.Stops h f e = absurd cc
leaves (course.Fails cause) h f e = absurd cc
leaves course.GoesOn h f e = absurd cc

is_kept : (came : Course) (h : Handling) (f : Faulted) → LeavesAlike (came, h) f → judged (came, h) f ≡ Kept
is_kept course.Returns h f l = kept_return (return_fault h.control) h (after_service (serving_of_fault f)) l.sound l.alike
is_kept course.Stops h f l = absurd (let e = l.returns in cc)
is_kept (course.Fails cause) h f l = absurd (let e = l.returns in cc)
is_kept course.GoesOn h f l = absurd (let e = l.returns in cc)

pub each_kept_is_alike : (came : Course × Handling) (f : Faulted) → (judged came f ≡ Kept) ↔ LeavesAlike came f
each_kept_is_alike came f = (leaves came.0 came.1 f, is_kept came.0 came.1 f)
