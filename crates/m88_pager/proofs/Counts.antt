-- Frames as their definition has them, while pages come and go.
use Rattle.std.specs.Prelude.{ℕ, zero, suc, Bool, List, [], ◌∷◌, Some, ◌≡◌, ◌+◌, ◌-◌, length, map, option_map, slice_get, take}
use Rattle.std.proofs.Common.{refl, ap}
use Rattle.std.proofs.lemmas.Option.{slice_get-map}
use Rattle.std.specs.Map.{lookup, remove_entry}
use Rattle.m88_isa.proofs.Laws.{by_test}
use Rattle.m88_pager.specs.Frames.{Frames, one_if_dirty, without_last}
use Rattle.m88_pager.specs.Inside.Seen.{with_mark}
use Rattle.m88_pager.specs.declared.frames.Frame.{Frame}

abbrev pub frames_at : List (ℕ × Bool) → ℕ → ℕ → Frames
frames_at pages ins outs = record { pages = pages; ins = ins; outs = outs }

pub lookup_marked : (test : ℕ → Bool) (es : List (ℕ × Frame)) → lookup test (map with_mark es) ≡ option_map (λ f. f.dirty) (lookup test es)
lookup_marked test [] = refl
lookup_marked test (e ∷ es) = by_test (test e.0) (λ t. rw t refl) (λ f. rw f (lookup_marked test es))

pub removed_marked : (test : ℕ → Bool) (es : List (ℕ × Frame)) → remove_entry test (map with_mark es) ≡ map with_mark (remove_entry test es)
removed_marked test [] = refl
removed_marked test (e ∷ es) = by_test (test e.0) (λ t. rw t refl) (λ f. rw f (ap (λ ys. with_mark e ∷ ys) (removed_marked test es)))

pub take_marked : (n : ℕ) (es : List (ℕ × Frame)) → take n (map with_mark es) ≡ map with_mark (take n es)
take_marked zero es = refl
take_marked (suc n) [] = refl
take_marked (suc n) (e ∷ es) = ap (λ ys. with_mark e ∷ ys) (take_marked n es)

pub same_length : (es : List (ℕ × Frame)) → length (map with_mark es) ≡ length es
same_length [] = refl
same_length (e ∷ es) = ap suc (same_length es)

-- the last page leaves
pub left_seen : (es : List (ℕ × Frame)) (e : ℕ × Frame) (ins outs : ℕ) → slice_get es (length es - 1) ≡ Some e →
    frames_at (map with_mark (take (length es - 1) es)) ins (outs + one_if_dirty (Some (with_mark e)))
    ≡ without_last (frames_at (map with_mark es) ins outs)
left_seen es e ins outs last =
    rw (same_length es, slice_get-map with_mark es (length es - 1), last, take_marked (length es - 1) es) refl
