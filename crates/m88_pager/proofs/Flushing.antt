-- The pages leave one by one.
use Rattle.std.specs.Prelude.{ℕ, Bool, true, false, List, [], ◌∷◌, ◌++◌, All, Option, Some, None, ◌≡◌, ◌<◌, ◌≤◌, ◌+◌, ◌-◌, length, slice_get, take, if◌then◌else◌}
use Rattle.std.proofs.Common.{arith, length-take, refl, sym, ap, subst, ◌∙◌}
use Rattle.std.proofs.lemmas.List.{get_or-take}
use Rattle.std.proofs.lemmas.Option.{slice_get-get_or}
use Rattle.m88_pager.proofs.Layers.{last_splits}
use Rattle.m88_pager.specs.Frames.{dirty_count, one_if_dirty}
use Rattle.m88_pager.specs.Inside.Seen.{IsWholePage}
use Rattle.m88_pager.specs.declared.frames.Frame.{Frame}

dirty_last : (pages : List (ℕ × Bool)) (page : ℕ × Bool) → dirty_count (pages ++ (page ∷ [])) ≡ one_if_dirty (Some page) + dirty_count pages
unfolding dirty_count
dirty_last [] page = refl
dirty_last (first ∷ pages) page = let rest = dirty_last pages page in omega (arith, rest)

some_last : (pages : List (ℕ × Bool)) → 0 < length pages → (page : ℕ × Bool) × (slice_get pages (length pages - 1) ≡ Some page)
some_last [] h = absurd (omega (arith, h))
some_last (first ∷ pages) h =
    (_, slice_get-get_or (first ∷ pages) (length (first ∷ pages) - 1) first (omega arith))

-- how many are dirty without the last
pub dirty_left : (pages : List (ℕ × Bool)) → 0 < length pages →
    one_if_dirty (slice_get pages (length pages - 1)) + dirty_count (take (length pages - 1) pages) ≡ dirty_count pages
dirty_left pages some =
    let last = some_last pages some in
    ap (λ o. one_if_dirty o + dirty_count (take (length pages - 1) pages)) last.1
    ∙ sym (dirty_last (take (length pages - 1) pages) last.0)
    ∙ ap dirty_count (sym (last_splits pages last.0 last.1))

pub none_dirty : (pages : List (ℕ × Bool)) → length pages ≡ 0 → dirty_count pages ≡ 0
unfolding dirty_count
none_dirty [] h = refl
none_dirty (page ∷ pages) h = absurd (omega (arith, h))

pub none_left : (es : List (ℕ × Frame)) → length es ≡ 0 → es ≡ []
none_left [] h = refl
none_left (e ∷ es) h = absurd (omega (arith, h))

pub at_most_one : (o : Option (ℕ × Bool)) → one_if_dirty o ≤ 1
at_most_one None = omega arith
at_most_one (Some page) = by_mark page.1
  where
    by_mark : (b : Bool) → (if b then 1 else 0) ≤ 1
    by_mark true = omega arith
    by_mark false = omega arith

pub whole_front : (n : ℕ) (es : List (ℕ × Frame)) → All IsWholePage es → All IsWholePage (take n es)
whole_front n es all = λ k d h.
    let long = length-take n es in
    subst IsWholePage (sym (get_or-take n es k d (omega (arith, h, long)))) (all k d (omega (arith, h, long)))
