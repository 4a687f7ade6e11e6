-- What a call makes of frames and of the store behind them, which tells its pages as they are before it and after it.
use Rattle.std.specs.Prelude.{ℕ, Bool, Vec, true, false, List, [], ◌∷◌, ◌++◌, ◌==◌, All, OnOk, Option, Result, ◌≡◌, ◌≤◌, ◌<◌, ◌+◌, ◌-◌, ◌^◌, Some, None, length, map, nat_eq, option_map, take, if◌then◌else◌}
use Rattle.std.specs.FinMap.{insert}
use Rattle.std.specs.Map.{lookup, remove_entry}
use Rattle.lru.specs.LruCache.{LruCache, lru_cache}
use Rattle.m88_base.specs.Pages.{page_bytes, page_number}
use Rattle.m88_isa.specs.Bus.{stored}
use Rattle.m88_isa.specs.Memory.{IsWordAccess}
use Rattle.m88_isa.specs.declared.planned.Access.{Access}
use Rattle.m88_pager.specs.Ends.{EndsByCount, UsesStore}
use Rattle.m88_pager.specs.Frames.{brought, dirty_count, with_room, without_last}
use Rattle.m88_pager.specs.Inside.Bytes.{AreWords, in_bytes}
use Rattle.m88_pager.specs.Inside.Seen.{AreCarried, IsSpare, IsWholePage, AreWithin, StillStands, held_by, kept, most_counted, with_mark, seen_of, seen_with}
use Rattle.m88_pager.specs.Pages.{page_of}
use Rattle.m88_pager.specs.Store.{IsPageOf, PageMap}
use Rattle.m88_pager.specs.declared.frames.Frame.{Frame}
use Rattle.m88_pager.specs.declared.frames.Frames.{Frames}
use Rattle.m88_pager.specs.declared.paged.PageEnd.{PageEnd}

-- a call that only reads a store: the pages and the count of writes stay; the count of faults doesn't fall, and stays
-- where no error is answered; and the call ends by a fault of the store only where the count rose
pub record ReadsStore {T : Type 0} (told told' : Option PageMap) (writes writes' : Option ℕ) (faults faults' : ℕ)
    (result : Result T PageEnd) : Type 0 where
  pub same : told' ≡ told
  pub unwritten : writes' ≡ writes
  pub clean : OnOk result (faults' ≡ faults)
  pub grows : faults ≤ faults'
  pub fault : EndsByCount faults faults' result

-- pages were put into a store, as many as are counted more than before that went out, where it tells how often one was
abbrev pub PutsOut : ℕ → ℕ → Option ℕ → Option ℕ → Type 0
PutsOut outs outs' writes writes' = option_map (λ n. n + outs) writes' ≡ option_map (λ n. n + outs') writes

-- a call that puts pages out: it uses the store, and puts in as many as it counts
pub record PutsPages {T : Type 0} (outs outs' : ℕ) (told told' : Option PageMap) (writes writes' : Option ℕ)
    (faults faults' : ℕ) (result : Result T PageEnd) : Type 0 where
  pub uses : UsesStore told told' faults faults' result
  pub written : OnOk result (PutsOut outs outs' writes writes')

-- so many frames in which no page stands, with no page written to the store and nothing counted
pub record AreEmpty (count : ℕ) (f : Frames) : Type 0 where
  pub empty : f.cache.entries ≡ []
  pub cap : f.cache.cap ≡ count
  pub held : (page : ℕ) → held_by f page ≡ false
  pub ins : f.ins ≡ 0
  pub outs : f.outs ≡ 0

-- a page is whole, and one more can be counted that goes out
pub record MayPutOut (page : ℕ) (bytes : List ℕ) (f : Frames) : Type 0 where
  pub whole : IsPageOf page bytes
  pub few : f.outs < 2 ^ 32 - 1

-- some page stands in a frame, all are whole, and one more can be counted that goes out
pub record MayLeave (f : Frames) : Type 0 where
  pub some : 0 < length f.cache.entries
  pub whole : All IsWholePage f.cache.entries
  pub few : f.outs < 2 ^ 32 - 1

-- all pages are whole, and all of them can be counted that go out
pub record MayFlush (f : Frames) : Type 0 where
  pub whole : All IsWholePage f.cache.entries
  pub few : f.outs + length f.cache.entries < 2 ^ 32

-- a page stands in no frame, and one more can be counted
pub record MayComeIn (page : ℕ) (f : Frames) : Type 0 where
  pub within : AreWithin most_counted f
  pub apart : lookup (nat_eq page) f.cache.entries ≡ None

-- an access is one that the data unit can make, and one page more can be counted
pub record MayCarry (a : Access) (f : Frames) : Type 0 where
  pub word : IsWordAccess a
  pub within : AreWithin most_counted f

-- an access is one that the data unit can make, and the page of a frame is whole
pub record MayWork (a : Access) (frame : Frame) : Type 0 where
  pub word : IsWordAccess a
  pub size : length frame.bytes.items ≡ page_bytes

-- a page that stands in no frame has a free one
pub record HasPlace (page : ℕ) (f : Frames) : Type 0 where
  pub room : length f.cache.entries < f.cache.cap
  pub apart : lookup (nat_eq page) f.cache.entries ≡ None

-- a page went out to the store, and the frames stay
pub record HasPutOut (page : ℕ) (bytes : List ℕ) (f g : Frames) (told told' : Option PageMap) : Type 0 where
  pub put : told' ≡ option_map (λ held. insert held page bytes) told
  pub held : (q : ℕ) → held_by g q ≡ (if page == q then true else held_by f q)
  pub outs : g.outs ≡ f.outs + 1
  pub ins : g.ins ≡ f.ins
  pub cache : g.cache ≡ f.cache

-- the page that was used least recently left its frame, to the store where it was dirty; its bytes are handed on
pub record HasLeft (bytes : List ℕ) (f g : Frames) (told told' : Option PageMap) : Type 0 where
  pub size : length bytes ≡ page_bytes
  pub left : g.cache.entries ≡ take (length f.cache.entries - 1) f.cache.entries
  pub counts : seen_of g ≡ without_last (seen_of f)
  pub cap : g.cache.cap ≡ f.cache.cap
  pub stands : (original : ℕ → List ℕ) → StillStands original (held_by f) f.cache.entries told
      (held_by g) g.cache.entries told'

-- a frame is free, for which a page left where all were taken, whose bytes are handed on
pub record HasFreed {A : Type 0} (spare : Option (Vec ℕ A)) (f g : Frames) (told told' : Option PageMap) : Type 0 where
  pub size : IsSpare spare
  pub room : length g.cache.entries < g.cache.cap
  pub left : g.cache.entries ≡ kept f.cache.cap f.cache.entries
  pub counts : seen_of g ≡ with_room f.cache.cap (seen_of f)
  pub cap : g.cache.cap ≡ f.cache.cap
  pub stands : (original : ℕ → List ℕ) → StillStands original (held_by f) f.cache.entries told
      (held_by g) g.cache.entries told'

-- a page is brought, whose frame isn't among the others: in front of them it makes the frames of the definition, and with
-- these and the store it stands for what frames and store stood for
pub record IsBrought (original : ℕ → List ℕ) (page : ℕ) (frame : Frame) (f g : Frames) (told told' : Option PageMap) :
    Type 0 where
  pub whole : IsWholePage (page, frame)
  pub others_whole : All IsWholePage g.cache.entries
  pub counts : seen_with page frame g ≡ brought f.cache.cap page (seen_of f)
  pub cap : g.cache.cap ≡ f.cache.cap
  pub stands : StillStands original (held_by f) f.cache.entries told
      (held_by g) ((page, frame) ∷ g.cache.entries) told'

-- the frame of a page is put in front
pub record IsPutInFront (page : ℕ) (frame : Frame) (f g : Frames) : Type 0 where
  pub put : g.cache.entries ≡ (page, frame) ∷ f.cache.entries
  pub cap : g.cache.cap ≡ f.cache.cap
  pub rest : g ≡ record f { cache = g.cache }

-- a page comes to the front with a frame in place of its own
abbrev pub in_front : ℕ → Frame → LruCache ℕ Frame → LruCache ℕ Frame
in_front page frame cache = lru_cache ((page, frame) ∷ remove_entry (nat_eq page) cache.entries) cache.cap

-- a frame after an access to its page: of a read it stays, and of a write its word is changed, and it is dirty
pub record IsWorked (a : Access) (old new : Frame) : Type 0 where
  pub size : length new.bytes.items ≡ page_bytes
  pub read : a.write ≡ false → new ≡ old
  pub dirty : a.write ≡ true → new.dirty ≡ true
  pub bytes : a.write ≡ true → (bus : ℕ → ℕ) → AreWords bus
      → old.bytes.items ≡ page_of (in_bytes bus) (page_number a.addr)
      → new.bytes.items ≡ page_of (in_bytes (stored a bus)) (page_number a.addr)

-- a transaction is carried out in the frame in which its page stands, which comes to the front
pub record IsCarriedThere (a : Access) (f g : Frames) : Type 0 where
  pub old : Frame
  pub new : Frame
  pub found : lookup (nat_eq (page_number a.addr)) f.cache.entries ≡ Some old
  pub worked : IsWorked a old new
  pub front : g ≡ record f { cache = in_front (page_number a.addr) new f.cache }

-- it is, or its page stands in no frame and nothing changes
pub record IsTried (a : Access) (there : Bool) (f g : Frames) : Type 0 where
  pub carried : there ≡ true → IsCarriedThere a f g
  pub none : there ≡ false → lookup (nat_eq (page_number a.addr)) f.cache.entries ≡ None
  pub same : there ≡ false → g ≡ f

-- some transactions more are carried out, by each of which no more than one page came in or went out
pub record AreCarriedOn (original : ℕ → ℕ) (accesses : List Access) (f g : Frames) (told told' : Option PageMap) :
    Type 0 where
  pub within : (n : ℕ) → AreWithin n f → AreWithin (n + length accesses) g
  pub cap : g.cache.cap ≡ f.cache.cap
  pub carried : (most : ℕ) (before : List Access) → AreCarried original most before f told
      → AreCarried original most (before ++ accesses) g told'

-- each page left its frame
pub record AreFlushed (f g : Frames) (told told' : Option PageMap) : Type 0 where
  pub empty : g.cache.entries ≡ []
  pub ins : g.ins ≡ f.ins
  pub outs : g.outs ≡ f.outs + dirty_count (map with_mark f.cache.entries)
  pub stands : (original : ℕ → List ℕ) → StillStands original (held_by f) f.cache.entries told
      (held_by g) g.cache.entries told'
