-- A few frames before a store of pages: which pages stand in them after the transactions of a history.
use Rattle.std.specs.Prelude.{ℕ, Bool, true, false, List, [], ◌∷◌, Option, Some, None, ◌+◌, ◌-◌, length, nat_eq, nat_lt, slice_get, take, if◌then◌else◌}
use Rattle.std.specs.Map.{lookup, remove_entry}
use Rattle.m88_base.specs.Pages.{page_number}
use Rattle.m88_isa.specs.declared.planned.Access.{Access}

-- the pages that stand in frames, the most recently used first, each with the mark that it is dirty, written since it
-- came in; how often a page came in, and how often a dirty one went out
pub record Frames : Type 0 where
  pub pages : List (ℕ × Bool)
  pub ins : ℕ
  pub outs : ℕ

-- at first no page does
abbrev pub no_frames : Frames
no_frames = record { pages = []; ins = 0; outs = 0 }

-- 1 for a page that is dirty
abbrev pub one_if_dirty : Option (ℕ × Bool) → ℕ
one_if_dirty None = 0
one_if_dirty (Some frame) = if frame.1 then 1 else 0

-- the last page leaves
abbrev pub without_last : Frames → Frames
without_last f = record {
  pages = take (length f.pages - 1) f.pages;
  ins = f.ins;
  outs = f.outs + one_if_dirty (slice_get f.pages (length f.pages - 1));
}

-- it does so where all frames are taken, so that there is one for one page more
abbrev pub with_room : ℕ → Frames → Frames
with_room most f = if nat_lt (length f.pages) most then f else without_last f

-- a page comes to the front: with its mark where it stands in a frame, and else clean, as one that came in
abbrev pub brought_as : ℕ → ℕ → Option Bool → Frames → Frames
brought_as most page (Some dirty) f = record f { pages = (page, dirty) ∷ remove_entry (nat_eq page) f.pages }
brought_as most page None f = record {
  pages = (page, false) ∷ (with_room most f).pages;
  ins = f.ins + 1;
  outs = (with_room most f).outs;
}

-- a page that is needed comes to the front, by the mark that it has where it stands in a frame
abbrev pub brought : ℕ → ℕ → Frames → Frames
brought most page f = brought_as most page (lookup (nat_eq page) f.pages) f

-- the page at the front is dirty
abbrev pub dirtied : List (ℕ × Bool) → List (ℕ × Bool)
dirtied [] = []
dirtied (frame ∷ frames) = (frame.0, true) ∷ frames

-- a transaction brings its page to the front, and where it writes, the page is dirty
abbrev pub touched : ℕ → Access → Frames → Frames
touched most a f =
    if a.write
    then record (brought most (page_number a.addr) f) { pages = dirtied (brought most (page_number a.addr) f).pages }
    else brought most (page_number a.addr) f

-- the frames after some transactions, in order
unfoldable pub frames_after : ℕ → List Access → Frames → Frames
frames_after most [] f = f
frames_after most (a ∷ accesses) f = frames_after most accesses (touched most a f)

-- how many pages are dirty
unfoldable pub dirty_count : List (ℕ × Bool) → ℕ
dirty_count [] = 0
dirty_count (frame ∷ frames) = one_if_dirty (Some frame) + dirty_count frames

-- how often a page came in along some transactions
abbrev pub ins_along : ℕ → List Access → ℕ
ins_along most accesses = (frames_after most accesses no_frames).ins

-- how often a dirty page went out: along them, and each that is dirty behind them
abbrev pub outs_along : ℕ → List Access → ℕ
outs_along most accesses =
    (frames_after most accesses no_frames).outs + dirty_count (frames_after most accesses no_frames).pages
