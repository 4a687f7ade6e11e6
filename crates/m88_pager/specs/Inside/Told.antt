-- What a store that tells its pages has once no page stands in a frame.
use Rattle.std.specs.Prelude.{ℕ, Bool, true, false, List, [], Option, Some, None, ◌≡◌, ◌≤◌, ◌<◌}
use Rattle.m88_base.specs.Pages.{IsPage}
use Rattle.m88_isa.specs.Bus.{changed_among, in_words}
use Rattle.m88_isa.specs.Lanes.{AreBytes}
use Rattle.m88_pager.specs.Inside.Bytes.{AreWords, in_bytes}
use Rattle.m88_pager.specs.Inside.Contents.{StandForMemory}
use Rattle.m88_pager.specs.Pages.{page_of}
use Rattle.m88_pager.specs.Store.{IsPageOf, PageMap}

-- it tells its pages, which stand for memory by words
abbrev pub StandsAlone : (ℕ → ℕ) → (ℕ → ℕ) → (ℕ → Bool) → (ℕ → Bool) → Option PageMap → Type 0
StandsAlone original bus written held None = ⊥
StandsAlone original bus written held (Some pages) =
    StandForMemory (page_of original) (page_of (in_bytes bus)) written held [] pages

-- the bytes of a page before a run and after it
pub record ArePagesOf (page : ℕ) (old new : List ℕ) : Type 0 where
  pub before : IsPageOf page old
  pub after : IsPageOf page new

-- words are those that changed among the first so many, where it does
abbrev pub AreChanged : (ℕ → ℕ) → (ℕ → Bool) → Option PageMap → ℕ → List (ℕ × ℕ) → Type 0
AreChanged original held told count words =
    (bus : ℕ → ℕ) (written : ℕ → Bool) → StandsAlone original bus written held told
    → AreBytes original → AreWords bus
    → words ≡ changed_among count (in_words original) bus

-- a set has no page from one number on and below another
abbrev pub HasNone : (ℕ → Bool) → ℕ → ℕ → Type 0
HasNone held from to = (page : ℕ) → from ≤ page → page < to → held page ≡ false

-- the first page of a set from a number on
pub record IsNextHeld (held : ℕ → Bool) (from page : ℕ) : Type 0 where
  pub number : IsPage page
  pub behind : from ≤ page
  pub held_is : held page ≡ true
  pub next : HasNone held from page
