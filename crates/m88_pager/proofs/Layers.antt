-- Frames over what stands behind them.
use Rattle.std.specs.Prelude.{ℕ, zero, suc, Bool, true, false, List, [], ◌∷◌, ◌++◌, All, Some, None, ◌≡◌, ◌-◌, ◌==◌, ◌&&◌, ◌||◌, is_some, length, nat_eq, slice_get, take, unwrap_or, if◌then◌else◌}
use Rattle.std.proofs.Common.{arith, refl, sym, ap, ap₂, subst, ◌∙◌}
use Rattle.std.proofs.Math.Path.{fun_ext}
use Rattle.std.proofs.lemmas.Bool.{eqb-false, eqb-true}
use Rattle.std.proofs.lemmas.Bool.Decides.{nat_tests}
use Rattle.std.proofs.lemmas.List.Elements.{All-get_or}
use Rattle.std.proofs.lemmas.Option.{get_or_from_slice_get, slice_get_within}
use Rattle.std.specs.Cmp.{nat_cmp_total}
use Rattle.std.specs.FinMap.{get, get-insert, insert}
use Rattle.std.specs.List.{AllByRecursion, IsDistinct}
use Rattle.std.specs.Map.{keys_of, lookup, remove_entry}
use Rattle.std.specs.Ordering.{eq_by_cmp, nat_cmp}
use Rattle.m88_isa.proofs.Laws.{by_test}
use Rattle.m88_pager.specs.Inside.Contents.{AreClean, behind, is_dirty_in, over, with_new_page}
use Rattle.m88_pager.specs.Store.{PageMap}
use Rattle.m88_pager.specs.declared.frames.Frame.{Frame}

-- the last of a list
last_at : {X : Type 0} (n : ℕ) (xs : List X) (x : X) → length xs ≡ suc n → slice_get xs n ≡ Some x → xs ≡ take n xs ++ (x ∷ [])
last_at zero [] x l h = absurd (omega (arith, l))
last_at zero (y ∷ []) x l h = cc
last_at zero (y ∷ z ∷ xs) x l h = absurd (omega (arith, l))
last_at (suc n) [] x l h = absurd (omega (arith, l))
last_at (suc n) (y ∷ xs) x l h = ap (λ ys. y ∷ ys) (last_at n xs x (omega (arith, l)) h)

pub last_splits : {X : Type 0} (xs : List X) (x : X) → slice_get xs (length xs - 1) ≡ Some x → xs ≡ take (length xs - 1) xs ++ (x ∷ [])
last_splits [] x h = absurd cc
last_splits (y ∷ xs) x h = last_at (length (y ∷ xs) - 1) (y ∷ xs) x (omega arith) h

-- an element of a list of which each is so
pub all_at : {X : Type 0} (P : X → Type 0) (xs : List X) (n : ℕ) (x : X) → All P xs → slice_get xs n ≡ Some x → P x
all_at P xs n x all h = subst P (get_or_from_slice_get xs n x x h) (All-get_or P xs n x (slice_get_within xs n x h) all)

-- what stands behind the last frame, seen through it
pub over_last : (es : List (ℕ × Frame)) (e : ℕ × Frame) (back : ℕ → List ℕ) →
    over (es ++ (e ∷ [])) back ≡ over es (with_new_page e.0 e.1.bytes.items back)
unfolding over
over_last [] e back = refl
over_last (f ∷ es) e back =
    fun_ext (λ q. ap (λ (b : List ℕ). if f.0 == q then f.1.bytes.items else b) (ap (λ (g : ℕ → List ℕ). g q) (over_last es e back)))

-- a store that a page was put into
pub put_behind : (original : ℕ → List ℕ) (pages : PageMap) (k : ℕ) (bytes : List ℕ) →
    behind original (insert pages k bytes) ≡ with_new_page k bytes (behind original pages)
unfolding behind
put_behind original pages k bytes = fun_ext (λ q. rw (get-insert nat_cmp_total pages k bytes q) (by_place q))
  where
    by_place : (q : ℕ) → unwrap_or (if eq_by_cmp nat_cmp q k then Some bytes else get pages q) (original q)
        ≡ (if k == q then bytes else unwrap_or (get pages q) (original q))
    by_place q = by_test (k == q)
        (λ t. let e = eqb-true k q t in rw t (grind (arith, nat_tests)))
        (λ f. let d = eqb-false k q f in rw f (grind (arith, nat_tests)))

pub put_held : (pages : PageMap) (k : ℕ) (bytes : List ℕ) (q : ℕ) →
    is_some (get (insert pages k bytes) q) ≡ (if k == q then true else is_some (get pages q))
put_held pages k bytes q = rw (get-insert nat_cmp_total pages k bytes q) (by_test (k == q)
    (λ t. let e = eqb-true k q t in rw t (grind (arith, nat_tests)))
    (λ f. let d = eqb-false k q f in rw f (grind (arith, nat_tests))))

-- a page that already holds what is put
pub same_behind : (k : ℕ) (bytes : List ℕ) (back : ℕ → List ℕ) → bytes ≡ back k → with_new_page k bytes back ≡ back
same_behind k bytes back h = fun_ext (λ q. by_test (k == q)
    (λ t. rw t (h ∙ ap back (eqb-true k q t)))
    (λ f. rw f refl))

-- the other frames are clean as before
pub clean_front : (es : List (ℕ × Frame)) (e : ℕ × Frame) (back : ℕ → List ℕ) → AreClean (es ++ (e ∷ [])) back → AreClean es back
unfolding AreClean
clean_front [] e back h = tt
clean_front (f ∷ es) e back h = (h.0, clean_front es e back h.1)

pub clean_last : (es : List (ℕ × Frame)) (e : ℕ × Frame) (back : ℕ → List ℕ) → AreClean (es ++ (e ∷ [])) back → e.1.dirty ≡ false →
    e.1.bytes.items ≡ back e.0
unfolding AreClean
clean_last [] e back h d = h.0 d
clean_last (f ∷ es) e back h d = clean_last es e back h.1 d

last_apart : (k : ℕ) (es : List (ℕ × Frame)) (e : ℕ × Frame) → AllByRecursion (λ y. nat_eq k y ≡ false) (keys_of (es ++ (e ∷ []))) →
    nat_eq k e.0 ≡ false
last_apart k [] e h = h.0
last_apart k (f ∷ es) e h = last_apart k es e h.1

pub clean_apart : (es : List (ℕ × Frame)) (e : ℕ × Frame) (back : ℕ → List ℕ) (bytes : List ℕ) →
    IsDistinct nat_eq (keys_of (es ++ (e ∷ []))) → AreClean es back →
    AreClean es (with_new_page e.0 bytes back)
unfolding AreClean IsDistinct
clean_apart [] e back bytes d h = tt
clean_apart (f ∷ es) e back bytes d h =
    let other = last_apart f.0 es e d.0 in let apart : (e.0 == f.0) ≡ false = grind (arith, nat_tests) in
    ((λ clean. rw apart (h.0 clean)), clean_apart es e back bytes d.1 h.1)

pub clean_removed : (test : ℕ → Bool) (es : List (ℕ × Frame)) (back : ℕ → List ℕ) → AreClean es back → AreClean (remove_entry test es) back
unfolding AreClean
clean_removed test [] back h = tt
clean_removed test (e ∷ es) back h = by_test (test e.0)
    (λ t. rw t h.1)
    (λ f. rw f (h.0, clean_removed test es back h.1))

pub clean_found : (page : ℕ) (es : List (ℕ × Frame)) (frame : Frame) (back : ℕ → List ℕ) → AreClean es back →
    lookup (nat_eq page) es ≡ Some frame → frame.dirty ≡ false →
    frame.bytes.items ≡ back page
unfolding AreClean
clean_found page [] frame back h found d = absurd cc
clean_found page (e ∷ es) frame back h found d = by_test (nat_eq page e.0)
    (λ t.
    let found' = rw t at found in
    let same : e.1 ≡ frame = cc in
    let at : e.0 ≡ page = sym (eqb-true page e.0 t) in
    subst (λ (f : Frame). f.bytes.items ≡ back page) same
    (h.0 (ap (λ (f : Frame). f.dirty) same ∙ d) ∙ ap back at))
    (λ f. clean_found page es frame back h.1 (rw f at found) d)

-- a dirty page among frames
pub dirty_last : (es : List (ℕ × Frame)) (e : ℕ × Frame) (q : ℕ) →
    is_dirty_in (es ++ (e ∷ [])) q ≡ (is_dirty_in es q || (e.0 == q && e.1.dirty))
unfolding is_dirty_in
dirty_last [] e q = by_test (e.0 == q && e.1.dirty) (λ t. rw t refl) (λ f. rw f refl)
dirty_last (f ∷ es) e q = by_test (f.0 == q && f.1.dirty)
    (λ t. rw t refl)
    (λ n. rw n (dirty_last es e q))

pub dirty_found : (page : ℕ) (es : List (ℕ × Frame)) (frame : Frame) (q : ℕ) → lookup (nat_eq page) es ≡ Some frame →
    is_dirty_in ((page, frame) ∷ remove_entry (nat_eq page) es) q ≡ is_dirty_in es q
unfolding is_dirty_in
dirty_found page [] frame q found = absurd cc
dirty_found page (e ∷ es) frame q found = by_test (nat_eq page e.0)
    (λ t.
    let found' = rw t at found in
    let same : e.1 ≡ frame = cc in
    let at : e.0 ≡ page = sym (eqb-true page e.0 t) in
    rw t (ap₂ (λ (k : ℕ) (f : Frame). k == q && f.dirty || is_dirty_in es q) (sym at) (sym same)))
    (λ n.
    let later = dirty_found page es frame q (rw n at found) in
    rw n (swapped (page == q && frame.dirty) (e.0 == q && e.1.dirty) (is_dirty_in (remove_entry (nat_eq page) es) q)
    ∙ ap (λ b. e.0 == q && e.1.dirty || b) later))
  where
    swapped : (a b c : Bool) → (a || (b || c)) ≡ (b || (a || c))
    swapped true true c = refl
    swapped true false c = refl
    swapped false true c = refl
    swapped false false c = refl

-- what is put into a frame, seen with the others
over_removed : (es : List (ℕ × Frame)) (page : ℕ) (back : ℕ → List ℕ) (q : ℕ) → (page == q) ≡ false →
    over (remove_entry (nat_eq page) es) back q ≡ over es back q
unfolding over
over_removed [] page back q h = refl
over_removed (e ∷ es) page back q h = by_test (nat_eq page e.0)
    (λ t. let other : (e.0 == q) ≡ false = grind (arith, nat_tests) in rw (t, other) refl)
    (λ f. rw f (ap (λ (b : List ℕ). if e.0 == q then e.1.bytes.items else b) (over_removed es page back q h)))

over_found : (es : List (ℕ × Frame)) (page : ℕ) (frame : Frame) (back : ℕ → List ℕ) → lookup (nat_eq page) es ≡ Some frame →
    over es back page ≡ frame.bytes.items
unfolding over
over_found [] page frame back found = absurd cc
over_found (e ∷ es) page frame back found = by_test (nat_eq page e.0)
    (λ t.
    let found' = rw t at found in
    let same : e.1 ≡ frame = cc in
    let here : (e.0 == page) ≡ true = grind (arith, nat_tests) in
    rw here (ap (λ (f : Frame). f.bytes.items) same))
    (λ f.
    let apart : (e.0 == page) ≡ false = grind (arith, nat_tests) in
    rw apart (over_found es page frame back (rw f at found)))

pub over_taken : (es : List (ℕ × Frame)) (page : ℕ) (frame : Frame) (back : ℕ → List ℕ) → lookup (nat_eq page) es ≡ Some frame →
    over ((page, frame) ∷ remove_entry (nat_eq page) es) back ≡ over es back
unfolding over
over_taken es page frame back found = fun_ext (λ q. by_test (page == q)
    (λ t. rw t (sym (over_found es page frame back found) ∙ ap (over es back) (eqb-true page q t)))
    (λ f. rw f (over_removed es page back q f)))

-- a page that stands in no frame
over_none : (es : List (ℕ × Frame)) (page : ℕ) (back : ℕ → List ℕ) → lookup (nat_eq page) es ≡ None → over es back page ≡ back page
unfolding over
over_none [] page back none = refl
over_none (e ∷ es) page back none = by_test (nat_eq page e.0)
    (λ t. let none' = rw t at none in absurd cc)
    (λ f.
    let apart : (e.0 == page) ≡ false = grind (arith, nat_tests) in
    rw apart (over_none es page back (rw f at none)))

pub over_come : (es : List (ℕ × Frame)) (page : ℕ) (frame : Frame) (back : ℕ → List ℕ) → lookup (nat_eq page) es ≡ None →
    frame.bytes.items ≡ back page →
    over ((page, frame) ∷ es) back ≡ over es back
unfolding over
over_come es page frame back none is = fun_ext (λ q. by_test (page == q)
    (λ t. rw t (is ∙ sym (over_none es page back none) ∙ ap (over es back) (eqb-true page q t)))
    (λ f. rw f refl))

pub over_changed : (es : List (ℕ × Frame)) (page : ℕ) (old new : Frame) (back : ℕ → List ℕ) →
    over ((page, new) ∷ es) back ≡ with_new_page page new.bytes.items (over ((page, old) ∷ es) back)
unfolding over
over_changed es page old new back = fun_ext (λ q. by_test (page == q) (λ t. rw t refl) (λ f. rw f refl))
