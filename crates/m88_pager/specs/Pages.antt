-- The pages of memory, byte by byte.
use Rattle.std.specs.Prelude.{ℕ, Bool, List, [], ◌∷◌, Option, Some, None, ◌≡◌, ◌+◌, ◌*◌, ◌==◌, ◌&&◌, ◌||◌, false, map, if◌then◌else◌}
use Rattle.std.specs.FinMap.{get}
use Rattle.std.specs.List.{range_with_len}
use Rattle.m88_base.specs.Pages.{page_bytes, page_number}
use Rattle.m88_isa.specs.declared.planned.Access.{Access}
use Rattle.m88_pager.specs.Store.{PageMap}

-- the bytes of a page of memory
unfoldable pub page_of : (ℕ → ℕ) → ℕ → List ℕ
page_of memory page = map (λ place. memory (page * page_bytes + place)) (range_with_len 0 page_bytes)

-- one of some transactions writes a page
abbrev pub writes_page : List Access → ℕ → Bool
writes_page [] page = false
writes_page (a ∷ accesses) page = a.write && page_number a.addr == page || writes_page accesses page

-- a store holds exactly the pages that are written, each with its bytes of memory
abbrev pub HoldsWritten : (ℕ → Bool) → (ℕ → ℕ) → PageMap → Type 0
HoldsWritten is_written memory pages =
    (page : ℕ) → get pages page ≡ (if is_written page then Some (page_of memory page) else None)

-- it does so where it tells its pages
abbrev pub HoldsWhereTold : (ℕ → Bool) → (ℕ → ℕ) → Option PageMap → Type 0
HoldsWhereTold is_written memory None = Unit {0}
HoldsWhereTold is_written memory (Some pages) = HoldsWritten is_written memory pages
