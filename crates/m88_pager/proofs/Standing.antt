-- Frames and a store go on to stand for memory while pages come and go.
use Rattle.std.specs.Prelude.{ℕ, Bool, true, false, List, [], ◌∷◌, ◌++◌, Option, Some, None, ◌≡◌, ◌-◌, ◌==◌, ◌&&◌, ◌||◌, is_some, length, nat_eq, option_map, slice_get, take, if◌then◌else◌}
use Rattle.std.proofs.Common.{refl, sym, ap, subst, ◌∙◌}
use Rattle.std.specs.FinMap.{get, insert}
use Rattle.std.specs.List.{IsDistinct}
use Rattle.std.specs.Map.{keys_of, lookup, remove_entry}
use Rattle.m88_pager.proofs.Layers.{clean_apart, clean_found, clean_front, clean_last, clean_removed, dirty_found, dirty_last, last_splits, over_changed, over_come, over_last, over_taken, put_behind, put_held, same_behind}
use Rattle.m88_pager.specs.Inside.Contents.{AreClean, StandWhereTold, StandForMemory, behind, is_dirty_in, over, with_new_page}
use Rattle.m88_pager.specs.Store.{PageMap}
use Rattle.m88_pager.specs.declared.frames.Frame.{Frame}

-- the last page leaves, and it is clean
leaves_clean : (original memory : ℕ → List ℕ) (written held : ℕ → Bool) (es : List (ℕ × Frame)) (e : ℕ × Frame) (pages : PageMap) →
    e.1.dirty ≡ false → StandForMemory original memory written held (es ++ (e ∷ [])) pages →
    StandForMemory original memory written held es pages
leaves_clean original memory written held es e pages d s = record {
  same =
      ap (over es) (sym (same_behind e.0 e.1.bytes.items (behind original pages) (clean_last es e (behind original pages) s.clean d)))
      ∙ sym (over_last es e (behind original pages))
      ∙ s.same;
  clean = clean_front es e (behind original pages) s.clean;
  written_are = λ page.
      sym (ap (λ b. is_some (get pages page) || b) (dirty_last es e page ∙ none_more page)) ∙ s.written_are page;
  held_are = s.held_are;
}
  where
    none_more : (page : ℕ) → (is_dirty_in es page || (e.0 == page && e.1.dirty)) ≡ is_dirty_in es page
    none_more page = rw d (none (is_dirty_in es page) (e.0 == page))
      where
        none : (a b : Bool) → (a || (b && false)) ≡ a
        none true b = refl
        none false true = refl
        none false false = refl

-- or dirty
leaves_dirty : (original memory : ℕ → List ℕ) (written held held' : ℕ → Bool) (es : List (ℕ × Frame)) (e : ℕ × Frame) (pages : PageMap) →
    IsDistinct nat_eq (keys_of (es ++ (e ∷ []))) → e.1.dirty ≡ true →
    ((page : ℕ) → held' page ≡ (if e.0 == page then true else held page)) →
    StandForMemory original memory written held (es ++ (e ∷ [])) pages →
    StandForMemory original memory written held' es (insert pages e.0 e.1.bytes.items)
leaves_dirty original memory written held held' es e pages apart d marked s = record {
  same =
      ap (over es) (put_behind original pages e.0 e.1.bytes.items)
      ∙ sym (over_last es e (behind original pages))
      ∙ s.same;
  clean =
      subst (AreClean es) (sym (put_behind original pages e.0 e.1.bytes.items))
      (clean_apart es e (behind original pages) e.1.bytes.items apart (clean_front es e (behind original pages) s.clean));
  written_are = λ page.
      ap (λ b. b || is_dirty_in es page) (put_held pages e.0 e.1.bytes.items page)
      ∙ moved (e.0 == page) (is_some (get pages page)) (is_dirty_in es page)
      ∙ ap (λ (b : Bool). is_some (get pages page) || (is_dirty_in es page || (e.0 == page && b))) (sym d)
      ∙ sym (ap (λ b. is_some (get pages page) || b) (dirty_last es e page))
      ∙ s.written_are page;
  held_are = λ page.
      put_held pages e.0 e.1.bytes.items page
      ∙ ap (λ (b : Bool). if e.0 == page then true else b) (s.held_are page)
      ∙ sym (marked page);
}
  where
    moved : (here told dirty : Bool) → ((if here then true else told) || dirty) ≡ (told || (dirty || (here && true)))
    moved true true dirty = refl
    moved true false true = refl
    moved true false false = refl
    moved false true dirty = refl
    moved false false true = refl
    moved false false false = refl

-- the same of the list as it is
pub stands_clean : (original memory : ℕ → List ℕ) (written held : ℕ → Bool) (xs : List (ℕ × Frame)) (e : ℕ × Frame)
    (told : Option PageMap) → slice_get xs (length xs - 1) ≡ Some e → e.1.dirty ≡ false →
    StandWhereTold original memory written held xs told →
    StandWhereTold original memory written held (take (length xs - 1) xs) told
stands_clean original memory written held xs e None last d s = tt
stands_clean original memory written held xs e (Some pages) last d s =
    leaves_clean original memory written held (take (length xs - 1) xs) e pages d
    (subst (λ (ys : List (ℕ × Frame)). StandForMemory original memory written held ys pages) (last_splits xs e last) s)

pub stands_dirty : (original memory : ℕ → List ℕ) (written held held' : ℕ → Bool) (xs : List (ℕ × Frame)) (e : ℕ × Frame)
    (told : Option PageMap) → slice_get xs (length xs - 1) ≡ Some e → IsDistinct nat_eq (keys_of xs) → e.1.dirty ≡ true →
    ((page : ℕ) → held' page ≡ (if e.0 == page then true else held page)) →
    StandWhereTold original memory written held xs told →
    StandWhereTold original memory written held' (take (length xs - 1) xs) (option_map (λ pages. insert pages e.0 e.1.bytes.items) told)
stands_dirty original memory written held held' xs e None last apart d marked s = tt
stands_dirty original memory written held held' xs e (Some pages) last apart d marked s =
    let splits = last_splits xs e last in
    leaves_dirty original memory written held held' (take (length xs - 1) xs) e pages
    (subst (λ (ys : List (ℕ × Frame)). IsDistinct nat_eq (keys_of ys)) splits apart) d marked
    (subst (λ (ys : List (ℕ × Frame)). StandForMemory original memory written held ys pages) splits s)

-- the page of a frame is taken to the front
pub stands_taken : (original memory : ℕ → List ℕ) (written held : ℕ → Bool) (es : List (ℕ × Frame)) (page : ℕ) (frame : Frame)
    (told : Option PageMap) → lookup (nat_eq page) es ≡ Some frame →
    StandWhereTold original memory written held es told →
    StandWhereTold original memory written held ((page, frame) ∷ remove_entry (nat_eq page) es) told
unfolding AreClean
stands_taken original memory written held es page frame None found s = tt
stands_taken original memory written held es page frame (Some pages) found s = record {
  same = over_taken es page frame (behind original pages) found ∙ s.same;
  clean = (clean_found page es frame (behind original pages) s.clean found, clean_removed (nat_eq page) es (behind original pages) s.clean);
  written_are = λ q. ap (λ b. is_some (get pages q) || b) (dirty_found page es frame q found) ∙ s.written_are q;
  held_are = s.held_are;
}

-- a page comes in that stands in none
pub stands_come : (original memory : ℕ → List ℕ) (written held : ℕ → Bool) (es : List (ℕ × Frame)) (page : ℕ) (frame : Frame)
    (pages : PageMap) → lookup (nat_eq page) es ≡ None → frame.dirty ≡ false → frame.bytes.items ≡ behind original pages page →
    StandForMemory original memory written held es pages →
    StandForMemory original memory written held ((page, frame) ∷ es) pages
unfolding AreClean is_dirty_in
stands_come original memory written held es page frame pages none d is s = record {
  same = over_come es page frame (behind original pages) none is ∙ s.same;
  clean = ((λ _. is), s.clean);
  written_are = λ q. ap (λ b. is_some (get pages q) || b) (rw d (no_more (page == q) (is_dirty_in es q))) ∙ s.written_are q;
  held_are = s.held_are;
}
  where
    no_more : (here dirty : Bool) → ((here && false) || dirty) ≡ dirty
    no_more true dirty = refl
    no_more false dirty = refl

-- the page at the front is written
pub stands_written : (original memory : ℕ → List ℕ) (written held : ℕ → Bool) (es : List (ℕ × Frame)) (page : ℕ) (old new : Frame)
    (told : Option PageMap) → new.dirty ≡ true →
    StandWhereTold original memory written held ((page, old) ∷ es) told →
    StandWhereTold original (with_new_page page new.bytes.items memory) (λ q. written q || page == q) held ((page, new) ∷ es) told
unfolding AreClean is_dirty_in
stands_written original memory written held es page old new None d s = tt
stands_written original memory written held es page old new (Some pages) d s = record {
  same = over_changed es page old new (behind original pages) ∙ ap (with_new_page page new.bytes.items) s.same;
  clean = ((λ clean. absurd (not_both new.dirty d clean)), s.clean.1);
  written_are = λ q.
      ap (λ (b : Bool). is_some (get pages q) || (page == q && b || is_dirty_in es q)) d
      ∙ marks (is_some (get pages q)) (page == q) old.dirty (is_dirty_in es q)
      ∙ ap (λ b. b || page == q) (s.written_are q);
  held_are = s.held_are;
}
  where
    not_both : (b : Bool) → b ≡ true → b ≡ false → ⊥
    not_both true x y = cc
    not_both false x y = cc

    marks : (told here was others : Bool) → (told || (here && true || others)) ≡ ((told || (here && was || others)) || here)
    marks true here was others = refl
    marks false true true others = refl
    marks false true false true = refl
    marks false true false false = refl
    marks false false was true = refl
    marks false false was false = refl
