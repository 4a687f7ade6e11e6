-- Frames as their definition has them, and what holds of them after some transactions.
use Rattle.std.specs.Prelude.{ℕ, Bool, IfSome, List, Vec, ◌∷◌, Option, Some, None, All, ◌≡◌, ◌≤◌, ◌-◌, ◌^◌, is_some, length, map, nat_lt, take, if◌then◌else◌}
use Rattle.std.specs.BTreeSet.{contains}
use Rattle.std.specs.FinMap.{get}
use Rattle.std.specs.Ordering.{nat_cmp}
use Rattle.m88_base.specs.Pages.{page_bytes}
use Rattle.m88_isa.specs.Bus.{bus_after_all, in_words}
use Rattle.m88_isa.specs.Lanes.{AreBytes}
use Rattle.m88_isa.specs.Memory.{IsWordAccess}
use Rattle.m88_isa.specs.Triples.{access_in}
use Rattle.m88_base.specs.declared.triple.Triple.{Triple}
use Rattle.m88_isa.specs.declared.planned.Access.{Access}
use Rattle.m88_pager.specs.Frames.{Frames as FramesSeen, frames_after, no_frames}
use Rattle.m88_pager.specs.Inside.Bytes.{in_bytes}
use Rattle.m88_pager.specs.Inside.Contents.{StandWhereTold, behind}
use Rattle.m88_pager.specs.Pages.{page_of, writes_page}
use Rattle.m88_pager.specs.Store.{IsPageOf, PageMap}
use Rattle.m88_pager.specs.declared.frames.Frame.{Frame}
use Rattle.m88_pager.specs.declared.frames.Frames.{Frames}

-- a page with its mark
abbrev pub with_mark : ℕ × Frame → ℕ × Bool
with_mark e = (e.0, e.1.dirty)

-- frames as their definition has them
abbrev pub seen_of : Frames → FramesSeen
seen_of f = record { pages = map with_mark f.cache.entries; ins = f.ins; outs = f.outs }

-- the same with one more at the front, which is taken out
abbrev pub seen_with : ℕ → Frame → Frames → FramesSeen
seen_with page frame f = record {
  pages = with_mark (page, frame) ∷ map with_mark f.cache.entries;
  ins = f.ins;
  outs = f.outs;
}

-- a page by its number, with all of its bytes
abbrev pub IsWholePage : ℕ × Frame → Type 0
IsWholePage e = IsPageOf e.0 e.1.bytes.items

-- the pages that were written to the store
abbrev pub held_by : Frames → ℕ → Bool
held_by f page = contains nat_cmp f.held page

-- the frames that stay where one page more is to come in
abbrev pub kept : ℕ → List (ℕ × Frame) → List (ℕ × Frame)
kept most entries = if nat_lt (length entries) most then entries else take (length entries - 1) entries

-- one change of frames and store after the other leaves what they stand for
abbrev pub StillStands :
    (ℕ → List ℕ) → (ℕ → Bool) → List (ℕ × Frame) → Option PageMap → (ℕ → Bool) → List (ℕ × Frame) → Option PageMap
    → Type 0
StillStands original held entries told held' entries' told' =
    (memory : ℕ → List ℕ) (written : ℕ → Bool)
    → StandWhereTold original memory written held entries told
    → StandWhereTold original memory written held' entries' told'

-- bytes are those that stand behind the frames for a page, where the store tells its pages and holds those of a set
abbrev pub ComesFrom : (ℕ → List ℕ) → (ℕ → Bool) → Option PageMap → ℕ → List ℕ → Type 0
ComesFrom original held None page bytes = Unit {0}
ComesFrom original held (Some pages) page bytes =
    ((q : ℕ) → is_some (get pages q) ≡ held q) → bytes ≡ behind original pages page

-- they are, and are as many as a page has
pub record ComesWhole (original : ℕ → List ℕ) (held : ℕ → Bool) (told : Option PageMap) (page : ℕ) (bytes : List ℕ) :
    Type 0 where
  pub size : length bytes ≡ page_bytes
  pub comes : ComesFrom original held told page bytes

-- bytes that are handed on are as many as a page has
abbrev pub IsSpare : {A : Type 0} → Option (Vec ℕ A) → Type 0
IsSpare spare = IfSome spare (λ bytes. length bytes.items ≡ page_bytes)

-- some transactions are carried out in the frames: these are as their definition says, and with the store behind them
-- they stand for memory after the transactions
pub record AreCarried (original : ℕ → ℕ) (most : ℕ) (accesses : List Access) (f : Frames) (told : Option PageMap) :
    Type 0 where
  pub bytes : AreBytes original
  pub whole : All IsWholePage f.cache.entries
  pub cap : f.cache.cap ≡ most
  pub counts : seen_of f ≡ frames_after most accesses no_frames
  pub stands :
      StandWhereTold (page_of original) (page_of (in_bytes (bus_after_all accesses (in_words original)))) (writes_page accesses)
      (held_by f) f.cache.entries told

-- all pages are whole, and no more came in or went out than so many
pub record AreWithin (most : ℕ) (f : Frames) : Type 0 where
  pub whole : All IsWholePage f.cache.entries
  pub ins : f.ins ≤ most
  pub outs : f.outs ≤ most

-- the most that are counted with one more to come
abbrev pub most_counted : ℕ
most_counted = 2 ^ 32 - 2

-- words are those of an access that the data unit can make
abbrev pub IsWordTriple : Triple → Type 0
IsWordTriple words = IsWordAccess (access_in words)
