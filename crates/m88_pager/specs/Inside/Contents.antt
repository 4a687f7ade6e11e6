-- What pages hold where some stand in frames before a store.
use Rattle.std.specs.Prelude.{ℕ, Bool, false, List, [], ◌∷◌, Option, Some, None, ◌≡◌, ◌==◌, ◌&&◌, ◌||◌, is_some, unwrap_or, if◌then◌else◌}
use Rattle.std.specs.FinMap.{get}
use Rattle.m88_pager.specs.Store.{PageMap}
use Rattle.m88_pager.specs.declared.frames.Frame.{Frame}

-- what a page holds where some pages stand in frames, and all have something behind them
unfoldable pub over : List (ℕ × Frame) → (ℕ → List ℕ) → ℕ → List ℕ
over [] back page = back page
over (e ∷ entries) back page = if e.0 == page then e.1.bytes.items else over entries back page

-- what stands behind the frames: the pages of a store, and else those of memory at first
unfoldable pub behind : (ℕ → List ℕ) → PageMap → ℕ → List ℕ
behind original pages page = unwrap_or (get pages page) (original page)

-- a clean frame has what stands behind it
unfoldable pub AreClean : List (ℕ × Frame) → (ℕ → List ℕ) → Type 0
AreClean [] back = Unit {0}
AreClean (e ∷ entries) back = (e.1.dirty ≡ false → e.1.bytes.items ≡ back e.0) × AreClean entries back

-- a page stands in a frame that is dirty
unfoldable pub is_dirty_in : List (ℕ × Frame) → ℕ → Bool
is_dirty_in [] page = false
is_dirty_in (e ∷ entries) page = e.0 == page && e.1.dirty || is_dirty_in entries page

-- one page changed
abbrev pub with_new_page : ℕ → List ℕ → (ℕ → List ℕ) → ℕ → List ℕ
with_new_page page bytes pages q = if page == q then bytes else pages q

-- frames before a store stand for pages of memory, of which some are written: seen through the frames, the pages are
-- those of memory; a clean frame can be dropped; the pages that are written are those that the store holds or that are
-- dirty; and the store holds those of a set
pub record StandForMemory (original memory : ℕ → List ℕ) (written held : ℕ → Bool) (entries : List (ℕ × Frame))
    (pages : PageMap) : Type 0 where
  pub same : over entries (behind original pages) ≡ memory
  pub clean : AreClean entries (behind original pages)
  pub written_are : (page : ℕ) → is_some (get pages page) || is_dirty_in entries page ≡ written page
  pub held_are : (page : ℕ) → is_some (get pages page) ≡ held page

-- they do so where the store tells its pages
abbrev pub StandWhereTold : (ℕ → List ℕ) → (ℕ → List ℕ) → (ℕ → Bool) → (ℕ → Bool) → List (ℕ × Frame) → Option PageMap → Type 0
StandWhereTold original memory written held entries None = Unit {0}
StandWhereTold original memory written held entries (Some pages) = StandForMemory original memory written held entries pages
